-- `refusal` meets its contract: the layout that words name fits them. Assumes nothing.
use Rattle.std.proofs.Common.{sym, ◌∙◌}
use Rattle.testing.proofs.AreaTest.{named_fits}
use Rattle.testing.proofs.refusal.Goals as goal

pub invariant_of-view : goal.invariant_of-view
invariant_of-view c = record { sized = named_fits c.args.area.now (sym c.in-Some.is ∙ c.named.ensures) }
