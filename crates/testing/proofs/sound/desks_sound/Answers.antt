-- `sound::desks_sound` meets its contract: the iterator asks each desk from 0 on. Assumes nothing.
use Rattle.std.proofs.Common.{rules, refl}
use borrow.Author.Tests.{tests}
use Rattle.register.specs.Area.{desk_sound}
use Rattle.area.specs.Words.{its_shape, memory_of}
use Rattle.testing.proofs.Every.{all_is}
use Rattle.testing.proofs.sound.desks_sound.Goals as goal

pub returns : goal.returns
returns c =
    let v = c.args.view.now in
    let test = desk_sound (its_shape v.layout) (memory_of v.layout v.words.now) in
    all_is test v.layout.n _ _ _ c.all.ensures.ran refl
    (λ x q k. search (rules, tests)) (λ x q k. search (rules, tests))
