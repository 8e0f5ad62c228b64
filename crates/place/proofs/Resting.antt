-- Laws of the test of the area and of those of the reader: in turn, and what they say once they pass. Assumes
-- nothing.
use mathlib.Core.Path.{◌≡◌, refl, ap, ◌∙◌}
use mathlib.Core.Bool.{Bool, true, false, cond}
use mathlib.Core.List.{List}
use Prim.Native.Nat.{ℕ, ◌+◌, ◌≤◌, ◌<◌}
use native.Mathlib.Nat.{mul-le-mul_right}
use native.Mathlib.Omega.{arith}
use lib.Dec.{ltb→lt}
use lib.ListN.{length}
use Rattle.std.specs.Prelude.{Result, Ok, Err, Some, None}
use Rattle.std.specs.Result.{result_ok}
use Rattle.theory.specs.Lists.{all}
use Rattle.theory.specs.Table.{width}
use Rattle.theory.proofs.Tests.{passed, test_passes, true_passes}
use Rattle.register.specs.Shape.{table}
use Rattle.register.specs.Area.{is_area, undamaged, shape_of, len, readers}
use Rattle.register.specs.Calls.{own_tests, is_own}
use Rattle.register.proofs.Facts.{area_facts, whole_area}
use Rattle.area.specs.declared.Layout.{Layout}
use Rattle.area.specs.Words.{layout_of, Sized, memory_of, its_shape, desk_word}
use Rattle.answer.specs.declared.refusals.Refusal.{Refusal}
use Rattle.answer.specs.declared.refusals.Refusal.TheVariants.{NotAnArea, Damaged}
use Rattle.testing.specs.Test.{test_result}
use Rattle.testing.proofs.AreaTest.{sized}
use Rattle.testing.proofs.TestResult.{Passes, passes}
use Rattle.place.specs.Places.{rest_tests}

module _ (a : List ℕ) {x : Result Layout Refusal} (t : x ≡ test_result a) where
  -- the test gives a layout
  pub named : {p : Layout} → Some p ≡ result_ok x → Passes p a
  named {p} e = passes a (go x e ∙ t)
    where
      go : (y : Result Layout Refusal) → Some p ≡ result_ok y → Ok p ≡ y
      go (Ok q) f = cc
      go (Err why) f = absurd cc

  -- it gives none
  pub untested : (r : ℕ) → None ≡ result_ok x → is_own a r ≡ false
  unfolding is_own test_result
  untested r e = go (is_area a) refl (undamaged a) refl (e ∙ ap result_ok t)
    where
      go : (b : Bool) → is_area a ≡ b → (u : Bool) → undamaged a ≡ u
          → None ≡ result_ok (cond b (cond u (Ok (layout_of (shape_of a))) (Err Damaged)) (Err NotAnArea))
          → all (own_tests a r) ≡ false
      go false e u f h = rw e
      go true e false f h = rw (e, f)
      go true e true f h = absurd cc

module _ {p : Layout} {a : List ℕ} (h : Passes p a) (r : ℕ) where
  -- an undamaged area: the reader's tests are left
  pub own_is : all (rest_tests p.n (memory_of p a) r) ≡ is_own a r
  unfolding is_own
  own_is = rw (h.layout, h.area, h.undamaged)

-- what is known of the area and the reader whose record it is
pub record Own (p : Layout) (a : List ℕ) (r : ℕ) : Type 0 where
  pub sized : Sized p a
  pub exists : r < p.n
  pub words : 1 ≤ p.c
  pub within : desk_word (its_shape p) r 6 + memory_of p a (len r) ≤ length a

pub own_facts : (a : List ℕ) (r : ℕ) → is_own a r ≡ true
    → {p : Layout} → p ≡ layout_of (shape_of a) → Own p a r
unfolding is_own
own_facts a r o l =
    let test = test_passes (own_tests a r) (true_passes _ o) in
    let known = area_facts a (passed _ (test 0)) in
    let exists = ltb→lt r (readers a) (test 2) in
    rw l
    (record {
      sized = sized a _ refl (passed _ (test 0));
      exists = exists;
      words = known.range.some_words;
      within =
          omega (
            arith,
            mul-le-mul_right (width (table (shape_of a)) 2) exists,
            known.exact,
            ((whole_area a (passed _ (test 1))).desk r exists).words,
          );
    })
