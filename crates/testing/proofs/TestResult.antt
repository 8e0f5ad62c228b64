-- What the result of the test says: its number, an area that passes, and every call on words that do not. Assumes
-- nothing.
use mathlib.Core.Bool.{Bool, true, false, cond}
use mathlib.Core.Path.{◌≡◌, refl}
use mathlib.Core.List.{List}
use Prim.Native.Nat.{ℕ}
use Rattle.std.specs.Prelude.{Result, Ok, Err, Some, None}
use Rattle.register.specs.Area.{shape_of, is_area, undamaged}
use Rattle.register.specs.Steps.{Move}
use Rattle.register.specs.Calls.{refused, answered}
use Rattle.register.specs.Conditions.{Whole}
use Rattle.register.proofs.Facts.{every_call, whole_area}
use Rattle.area.specs.declared.Layout.{Layout}
use Rattle.area.specs.Words.{layout_of, its_shape, memory_of, Sized}
use Rattle.answer.specs.declared.refusals.Refusal.{Refusal}
use Rattle.answer.specs.declared.refusals.Refusal.TheVariants.{NotAnArea, Damaged}
use Rattle.answer.specs.Refusals.{number_of}
use Rattle.testing.specs.Test.{test_number, test_result, why, result_number}
use Rattle.testing.proofs.AreaTest.{sized}

-- words that pass the test, and the layout that they name
pub record Passes (p : Layout) (a : List ℕ) : Type 0 where
  pub area : is_area a ≡ true
  pub undamaged : undamaged a ≡ true
  pub layout : p ≡ layout_of (shape_of a)
  pub sized : Sized p a
  pub sound : Whole (its_shape p) (memory_of p a)

-- a result by the refusal in it
pub refused_by : (r : Result Layout Refusal) {e : Refusal} → Some e ≡ why r → Err e ≡ r
refused_by (Ok p) h = absurd cc
refused_by (Err e) h = cc

module _ (a : List ℕ) where
  -- its number is that of the test
  pub number_is : result_number (test_result a) ≡ test_number a
  unfolding test_result test_number
  number_is = go (is_area a) (undamaged a)
    where
      go : (b u : Bool) → result_number (cond b (cond u (Ok (layout_of (shape_of a))) (Err Damaged)) (Err NotAnArea))
          ≡ cond b (cond u 0 2) 1
      go true true = refl
      go true false = refl
      go false u = refl

  -- a layout: both tests pass, and it is the area's
  pub passes : {p : Layout} → Ok p ≡ test_result a → Passes p a
  unfolding test_result
  passes {p} = go (is_area a) refl (undamaged a) refl
    where
      go : (b : Bool) → is_area a ≡ b → (u : Bool) → undamaged a ≡ u
          → Ok p ≡ cond b (cond u (Ok (layout_of (shape_of a))) (Err Damaged)) (Err NotAnArea) → Passes p a
      go true e true f h =
          let l : p ≡ layout_of (shape_of a) = cc in
          record {
            area = e;
            undamaged = f;
            layout = l;
            sized = sized a p l e;
            sound = rw l (whole_area a f);
          }
      go true e false f h = absurd cc
      go false e u f h = absurd cc

  -- no refusal: the area's layout is the result
  pub named_by : None ≡ why (test_result a) → Ok (layout_of (shape_of a)) ≡ test_result a
  unfolding test_result
  named_by = go (is_area a) (undamaged a)
    where
      go : (b u : Bool) → None ≡ why (cond b (cond u (Ok (layout_of (shape_of a))) (Err Damaged)) (Err NotAnArea))
          → Ok (layout_of (shape_of a))
          ≡ cond b (cond u (Ok (layout_of (shape_of a))) (Err Damaged)) (Err NotAnArea)
      go true true h = refl
      go true false h = absurd cc
      go false u h = absurd cc

  -- a refusal: every call on an existing area refuses by its number
  pub refuses : (x : Move) {why : Refusal} → Err why ≡ test_result a
      → answered a x ≡ refused (number_of why) a
  unfolding test_result answered
  refuses x {why} = go (is_area a) refl (undamaged a) refl
    where
      go : (b : Bool) → is_area a ≡ b → (u : Bool) → undamaged a ≡ u
          → Err why ≡ cond b (cond u (Ok (layout_of (shape_of a))) (Err Damaged)) (Err NotAnArea)
          → answered a x ≡ refused (number_of why) a
      go false e u f h = let n : why ≡ NotAnArea = cc in rw (e, n)
      go true e false f h = let n : why ≡ Damaged = cc in rw (e, every_call (shape_of a) x, f, n)
      go true e true f h = absurd cc
