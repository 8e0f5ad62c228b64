-- `fill` meets its contract: all words 0, and then the stores of making. Assumes nothing.
use Rattle.fresh.proofs.Filled.{filled}
use Rattle.fresh.proofs.fill.Goals as goal

pub returns-clause-words : goal.returns-clause-words
returns-clause-words c =
    filled c.args.«record».now c.clear.ensures.same c.clear.ensures.words c.set_numbers.ensures c.set_offsets.ensures
    c.set_starting.ensures
