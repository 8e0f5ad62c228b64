-- `bench::printing::put_printed` meets its contract: what is no run file is refused, and a run file played.
-- Assumes nothing.
use Rattle.std.proofs.Common.{sym}
use Rattle.bench.proofs.Course.{refused_printed, run_printed}
use Rattle.bench.proofs.printing.put_printed.Goals as goal

pub returns-then-not-is_run_file : goal.returns-then-not-is_run_file
returns-then-not-is_run_file c =
    rw (refused_printed c.args.file.now (sym c.if-not-is_run_file.ensures)) c.put_refused.ensures

pub returns : goal.returns
returns c = rw (run_printed c.args.file.now (sym c.if-not-is_run_file.ensures)) c.put_run_in.ensures
