-- Texts that pass as the same are equal. Assumes nothing.
use mathlib.Core.Path.{◌≡◌}
use lib.Dec.{T}
use Rattle.std.proofs.Common.{rules}
use Rattle.std.proofs.lemmas.Slice.Eq.{compares_Decides}
use Rattle.text.specs.Lines.{Text, same_text}

pub same_so : (t u : Text) → T (same_text t u) → t ≡ u
same_so t u h = (compares_Decides same_text (search rules) t u).0 (grind rules)
