-- `set_starting` meets its contract: the size, and then the record. Assumes nothing.
use Rattle.area.proofs.Behind.{then}
use Rattle.fresh.proofs.set_starting.Goals as goal

pub returns : goal.returns
returns c = then _ _ c.set.ensures c.copy_in.ensures
