-- `takes` meets its contract: where it ends the read, there is room for one more write. Assumes nothing.
use Rattle.area.proofs.Behind.{then}
use Rattle.copying.proofs.Copied.{room_taken}
use Rattle.copying.proofs.takes.Goals as goal

pub finishes-requires : goal.finishes-requires
finishes-requires c =
    room_taken c.args.area.now c.requires.1 c.requires.0
    (then _ _ (then _ _ c.set.ensures c.set-2.ensures) c.set-3.ensures)
