-- `finishes` meets its contract, by the law of the end of a read. Assumes nothing.
use Rattle.std.proofs.Common.{rules}
use Rattle.area.proofs.Behind.{then}
use Rattle.copying.proofs.Copied.{ended}
use Rattle.copying.proofs.finishes.Goals as goal

pub returns-clause-answer : goal.returns-clause-answer
returns-clause-answer c =
    let stores = then _ _ c.set.ensures c.set-2.ensures in
    ended c.args.area.now c.requires.0 (search rules) stores
