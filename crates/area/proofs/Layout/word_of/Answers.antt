-- `Layout::word_of` meets its contract: a field of one word stands behind fields of one word each. Assumes nothing.
use Rattle.std.proofs.Common.{arith, ◌∙◌, subst}
use Rattle.register.specs.Shape.{table}
use Rattle.register.proofs.Body.{slot_offset, desk_offset, writer_offset}
use Rattle.area.specs.Words.{its_shape}
use Rattle.area.specs.Places.{Within}
use Rattle.area.proofs.Words.{first_word}
use Rattle.area.proofs.Layout.word_of.Goals as goal

pub returns-in-SlotField-clause-is : goal.returns-in-SlotField-clause-is
returns-in-SlotField-clause-is c =
    let k = its_shape c.args.self in
    let x = c.in-SlotField in
    let within = subst (Within c.args.self) x.is c.requires.1 in
    rw x.is (c.slot_word.ensures.0 ∙ first_word (table k) 1 x.f x.s (slot_offset k x.f (omega (arith, within.0))))

pub returns-in-DeskField-clause-is : goal.returns-in-DeskField-clause-is
returns-in-DeskField-clause-is c =
    let k = its_shape c.args.self in
    let x = c.in-DeskField in
    let within = subst (Within c.args.self) x.is c.requires.1 in
    rw x.is (c.desk_word.ensures.0 ∙ first_word (table k) 2 x.f x.r (desk_offset k x.f (omega (arith, within.0))))

pub returns-in-WriterField-clause-is : goal.returns-in-WriterField-clause-is
returns-in-WriterField-clause-is c =
    let k = its_shape c.args.self in
    let x = c.in-WriterField in
    let within = subst (Within c.args.self) x.is c.requires.1 in
    rw x.is (c.writer_word.ensures.0 ∙ first_word (table k) 3 x.f 0 (writer_offset k x.f (omega (arith, within))))
