-- A shape that making takes. Assumes nothing.
use mathlib.Core.Bool.{true, ◌&&◌}
use mathlib.Core.Path.{◌≡◌}
use Prim.Native.Nat.{◌≤◌}
use Rattle.register.specs.Shape.{Shape, known_form, in_range}
use Rattle.register.proofs.Facts.{range_facts}
use Rattle.theory.proofs.Tests.{both, true_passes}

-- the form is known, and N and C are in range
pub record Taken (k : Shape) : Type 0 where
  pub known : known_form k.form && in_range k ≡ true
  pub few_readers : k.n ≤ 64
  pub few_words : k.c ≤ 256

-- what the test says where it passes
pub passed_taken : {k : Shape} → known_form k.form && in_range k ≡ true → Taken k
passed_taken {k} e =
    let range = range_facts k (both (known_form k.form) (in_range k) (true_passes _ e)).1 in
    record { known = e; few_readers = range.few_readers; few_words = range.few_words }
