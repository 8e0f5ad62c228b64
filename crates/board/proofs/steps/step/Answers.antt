-- `steps::step` meets its contract: the test comes first, and behind it the call is its plan carried out.
-- Assumes nothing.
use Rattle.std.proofs.Common.{rules, ◌∙◌, sym}
use Rattle.register.specs.Steps.{step}
use Rattle.testing.proofs.TestResult.{passes, refuses}
use Rattle.board.proofs.Answering.{by_reader, by_writer, by_nobody}
use Rattle.board.proofs.steps.step.Goals as goal

pub returns-in_err-layout : goal.returns-in_err-layout
returns-in_err-layout c =
    let e = refuses c.args.area.now (step c.args.process) (sym c.in_err-layout.was ∙ c.tested.ensures) in search rules

pub invariant_of-lent : goal.invariant_of-lent
invariant_of-lent c = record { sized = (passes c.args.area.now (sym c.in_ok-layout.was ∙ c.tested.ensures)).sized }

pub invariant_of-lent-in-Equal : goal.invariant_of-lent-in-Equal
invariant_of-lent-in-Equal c =
    record { sized = (passes c.args.area.now (sym c.in_ok-layout.was ∙ c.tested.ensures)).sized }

pub invariant_of-lent-in-Greater : goal.invariant_of-lent-in-Greater
invariant_of-lent-in-Greater c =
    record { sized = (passes c.args.area.now (sym c.in_ok-layout.was ∙ c.tested.ensures)).sized }

pub reader_step-requires : goal.reader_step-requires
reader_step-requires c = ((passes c.args.area.now (sym c.in_ok-layout.was ∙ c.tested.ensures)).sound, search rules)

pub writer_step-requires : goal.writer_step-requires
writer_step-requires c = (passes c.args.area.now (sym c.in_ok-layout.was ∙ c.tested.ensures)).sound

pub returns-in-Less : goal.returns-in-Less
returns-in-Less c =
    let t = passes c.args.area.now (sym c.in_ok-layout.was ∙ c.tested.ensures) in
    let e = c.reader_step.ensures.answer ∙ by_reader t c.args.process (search rules) in
    search rules

pub returns-in-Equal : goal.returns-in-Equal
returns-in-Equal c =
    let t = passes c.args.area.now (sym c.in_ok-layout.was ∙ c.tested.ensures) in
    let e = c.writer_step.ensures.answer ∙ by_writer t c.args.process (search rules) in
    search rules

pub returns-in-Greater : goal.returns-in-Greater
returns-in-Greater c =
    let t = passes c.args.area.now (sym c.in_ok-layout.was ∙ c.tested.ensures) in
    let e = by_nobody t c.args.process (search rules) in
    search rules
