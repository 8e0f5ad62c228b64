-- `writes::begin_write` meets its contract: the test comes first, and behind it the call is its plan carried out.
-- Assumes nothing.
use Rattle.std.proofs.Common.{rules, ◌∙◌, sym}
use Rattle.register.specs.Steps.{write}
use Rattle.testing.proofs.TestResult.{passes, refuses}
use Rattle.board.proofs.Answering.{carries_out}
use Rattle.board.proofs.writes.begin_write.Goals as goal

pub returns-in_err-layout : goal.returns-in_err-layout
returns-in_err-layout c =
    let e = refuses c.args.area.now (write c.args.words.now)
    (sym c.in_err-layout.was ∙ c.tested.ensures) in search rules

pub invariant_of-lent : goal.invariant_of-lent
invariant_of-lent c =
    record { sized = (passes c.args.area.now (sym c.in_ok-layout.was ∙ c.tested.ensures)).sized }

pub write_begins-requires : goal.write_begins-requires
write_begins-requires c = (passes c.args.area.now (sym c.in_ok-layout.was ∙ c.tested.ensures)).sound

pub returns : goal.returns
returns c =
    let passed = passes c.args.area.now (sym c.in_ok-layout.was ∙ c.tested.ensures) in
    let e = carries_out passed (write c.args.words.now) in
    let f = c.write_begins.ensures.answer ∙ e in
    search rules
