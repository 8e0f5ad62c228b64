-- `reads::begin_read` meets its contract: the test comes first, and behind it the call is its plan carried out.
-- Assumes nothing.
use Rattle.std.proofs.Common.{rules, ◌∙◌, sym}
use Rattle.register.specs.Steps.{read}
use Rattle.testing.proofs.TestResult.{passes, refuses}
use Rattle.board.proofs.Answering.{carries_out}
use Rattle.board.proofs.reads.begin_read.Goals as goal

pub returns-in_err-layout : goal.returns-in_err-layout
returns-in_err-layout c =
    let e = refuses c.args.area.now (read c.args.reader) (sym c.in_err-layout.was ∙ c.tested.ensures) in search rules

pub invariant_of-lent : goal.invariant_of-lent
invariant_of-lent c =
    record { sized = (passes c.args.area.now (sym c.in_ok-layout.was ∙ c.tested.ensures)).sized }

pub read_begins-requires : goal.read_begins-requires
read_begins-requires c = (passes c.args.area.now (sym c.in_ok-layout.was ∙ c.tested.ensures)).sound

pub returns : goal.returns
returns c =
    let e = carries_out (passes c.args.area.now (sym c.in_ok-layout.was ∙ c.tested.ensures)) (read c.args.reader) in
    let f = c.read_begins.ensures.answer ∙ e in
    search rules
