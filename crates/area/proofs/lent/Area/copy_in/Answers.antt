-- `copy_in` meets its contract: each turn copies one word more. Assumes nothing.
use Rattle.std.proofs.Common.{rules}
use Rattle.area.proofs.Copying.{copying_more, row_within}
use Rattle.area.proofs.lent.Area.copy_in.Goals as goal

pub set-requires : goal.set-requires
set-requires c = rw c.place.ensures (search (rules, row_within))

pub loop-j-preserved : goal.loop-j-preserved
loop-j-preserved c = let stored = rw c.place.ensures at c.set.ensures in search (rules, copying_more)
