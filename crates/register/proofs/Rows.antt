-- Rows of a table "given exactly when", one in front of others: the first whose condition holds gives its number.
--     Says                                          a test fails exactly if a condition holds
--     unless_not, _below, _at_most, _equal          tests, and the conditions that they say
--     row                                           a test in front, and its row in front
--     passes, holds, nothing_more                   a row that does not hold, one that does, no row: 0
-- Assumes nothing.
use mathlib.Core.Path.{◌≡◌, refl, sym, ◌∙◌}
use mathlib.Core.Logic.{◌≢◌, ◌↔◌}
use mathlib.Core.Bool.{Bool, true, false, true≢false, cond}
use mathlib.Core.List.{List, [], ◌∷◌}
use Prim.Native.Nat.{ℕ, ◌≤◌, ◌<◌}
use native.Mathlib.Omega.{arith}
use lib.Dec.{eqb, leb, ltb}
use borrow.Author.Tests.{eqb-true, eqb-false, leb-true, leb-false, ltb-true, ltb-false}
use Rattle.register.specs.Numbers.{Row, ◌if◌, Given, by_none, by_first, by_later}

-- ---- tests and conditions

abbrev pub Says : Bool → Type 0 → Type 0
Says b W = (b ≡ false → W) × (b ≡ true → ¬ W)

-- a test that passes exactly if a fact holds
pub unless_not : (b : Bool) {F : Type 0} → (b ≡ true) ↔ F → Says b (¬ F)
unless_not b h = (λ e f. true≢false (sym (h.1 f) ∙ e), λ e g. g (h.0 e))

pub unless_below : (i j : ℕ) → Says (ltb i j) (j ≤ i)
unless_below i j = (ltb-false i j, λ e h. let l = ltb-true i j e in omega arith)

pub unless_at_most : (i j : ℕ) → Says (leb i j) (j < i)
unless_at_most i j = (leb-false i j, λ e h. let l = leb-true i j e in omega arith)

pub unless_equal : (i j : ℕ) → Says (eqb i j) (i ≢ j)
unless_equal i j = (eqb-false i j, λ e h. h (eqb-true i j e))

-- ---- rows

-- of what has a number: a test in front, and its row in front
pub row : {A : Type 0} (number : A → ℕ) (b : Bool) (x y : A) {W : Type 0} {l : List Row} {k : ℕ} → Says b W
    → (number x ≡ k) ↔ Given l k → (number (cond b x y) ≡ k) ↔ Given (number y if W ∷ l) k
row number true x y {W} {l} {k} s rest = (λ e. by_later (s.1 refl) (rest.0 e), back)
  where
    back : Given (number y if W ∷ l) k → number x ≡ k
    back (by_first w e) = absurd (s.1 refl w)
    back (by_later d g) = rest.1 g
row number false x y {W} {l} {k} s rest = (λ e. by_first (s.0 refl) (sym e), back)
  where
    back : Given (number y if W ∷ l) k → number y ≡ k
    back (by_first w e) = sym e
    back (by_later d g) = absurd (d (s.0 refl))

-- a row whose condition does not hold
pub passes : {j i k : ℕ} {W : Type 0} {l : List Row} → ¬ W → (i ≡ k) ↔ Given l k
    → (i ≡ k) ↔ Given (j if W ∷ l) k
passes {j} {i} {k} {W} {l} d rest = (λ e. by_later d (rest.0 e), back)
  where
    back : Given (j if W ∷ l) k → i ≡ k
    back (by_first w e) = absurd (d w)
    back (by_later x g) = rest.1 g

-- a row whose condition holds
pub holds : {j k : ℕ} {W : Type 0} {l : List Row} → W → (j ≡ k) ↔ Given (j if W ∷ l) k
holds {j} {k} {W} {l} w = (λ e. by_first w (sym e), back)
  where
    back : Given (j if W ∷ l) k → j ≡ k
    back (by_first x e) = sym e
    back (by_later d g) = absurd (d w)

-- no row is left
pub nothing_more : {k : ℕ} → (0 ≡ k) ↔ Given [] k
nothing_more {k} = (λ e. by_none (sym e), back)
  where
    back : Given [] k → 0 ≡ k
    back (by_none e) = sym e
