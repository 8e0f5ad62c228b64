-- `tested` meets its contract: a refusal is handed on, and where there is none the area names its layout.
-- Assumes nothing.
use Rattle.std.proofs.Common.{sym, ap, ◌∙◌}
use Rattle.std.specs.Prelude.{Ok}
use Rattle.testing.proofs.TestResult.{refused_by, named_by, passes}
use Rattle.testing.proofs.tested.Goals as goal

pub layout-requires : goal.layout-requires
layout-requires c =
    let a = c.args.area.now in
    (passes a (named_by a (sym c.in-None.is ∙ c.refusal.ensures))).area

pub returns-in-Some : goal.returns-in-Some
returns-in-Some c = refused_by _ (sym c.in-Some.is ∙ c.refusal.ensures)

pub returns-in-None : goal.returns-in-None
returns-in-None c = ap Ok c.layout.ensures ∙ named_by c.args.area.now (sym c.in-None.is ∙ c.refusal.ensures)
