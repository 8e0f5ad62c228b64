-- The loop of `copy_in`: the first j words are copied. Assumes nothing.
use Rattle.area.specs.Places.{as_row}
use Rattle.area.proofs.Copying.{Copying}
use Rattle.area.proofs.lent.Area.copy_in.Given as goal

abbrev pub invariant-loop-j : goal.invariant-loop-j
invariant-loop-j l = Copying (as_row l.row) l.«record» l.initial.self l.self l.j
