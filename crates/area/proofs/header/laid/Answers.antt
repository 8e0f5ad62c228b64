-- `header::laid` meets its contract: N and C are in range where the test passes. Assumes nothing.
use Rattle.std.proofs.Common.{sym, ◌∙◌}
use Rattle.area.proofs.Taken.{passed_taken}
use Rattle.area.proofs.header.laid.Goals as goal

pub new-requires : goal.new-requires
new-requires c =
    let t = passed_taken (sym c.known.ensures ∙ c.if-not-known.false) in (t.few_readers, t.few_words)
