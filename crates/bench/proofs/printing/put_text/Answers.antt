-- `bench::printing::put_text` meets its contract: the text ends inside the bytes, and it is whole where there is room.
-- Assumes nothing.
use Rattle.std.proofs.Common.{rules}
use Rattle.io.proofs.Counting.{prefix_len_of_le}
use Rattle.text.proofs.Sheets.{put_inside}
use Rattle.bench.specs.Printed.{printed}
use Rattle.bench.proofs.Lengths.{text_whole}
use Rattle.bench.proofs.printing.put_text.Goals as goal

pub returns-clause-prefix_len : goal.returns-clause-prefix_len
returns-clause-prefix_len c =
    prefix_len_of_le _ _ (put_inside c.args.out.now 0 (printed c.args.file.now) (search rules))

pub returns-clause-out_after : goal.returns-clause-out_after
returns-clause-out_after c = text_whole c.args.file.now c.args.out.now (search rules)
