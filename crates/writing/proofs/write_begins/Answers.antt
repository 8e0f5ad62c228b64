-- `write_begins` meets its contract: behind the refusals come the stores of the plan. Assumes nothing.
use Rattle.std.proofs.Common.{◌++◌, rules}
use Rattle.theory.specs.Place.{copied}
use Rattle.register.specs.Area.{write_record}
use Rattle.register.specs.Steps.{write_begins, sets_out}
use Rattle.area.specs.Lent.{shape_at, memory_at}
use Rattle.area.proofs.Behind.{then}
use Rattle.answer.proofs.Stored.{accepts}
use Rattle.writing.proofs.write_begins.Goals as goal

pub returns-clause-answer : goal.returns-clause-answer
returns-clause-answer c =
    let a = c.args.area.now in
    let v = c.args.words.now in
    accepts a.layout a.layout.n a.words.now (write_begins (shape_at a) (memory_at a) v)
    (copied write_record 0 v ++ sets_out v) (search rules) (then _ _ c.copy_in.ensures c.sets_out.ensures).words
