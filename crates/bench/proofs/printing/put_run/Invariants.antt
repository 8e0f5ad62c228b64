-- `bench::printing::put_run`: what holds between two moves. Assumes nothing.
use Rattle.bench.proofs.Course.{Coursing}
use Rattle.bench.proofs.printing.put_run.Given as goal

abbrev pub invariant-loop-i : goal.invariant-loop-i
invariant-loop-i l = Coursing l.initial.run l.run l.i
