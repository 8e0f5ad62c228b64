-- The words of a reader's record: where the code finds them or not (`range_none`, `range_own`, `told_is`), and that
-- what showing hands back stands there, within the area. Assumes nothing.
use mathlib.Core.Path.{◌≡◌, refl}
use mathlib.Core.Bool.{Bool, true, false}
use mathlib.Core.List.{List}
use Prim.Native.Nat.{ℕ, ◌+◌, ◌≤◌}
use native.Mathlib.Nat.{add-sub_cancel_left}
use native.Mathlib.Omega.{arith}
use lib.ListN.{length}
use Rattle.std.specs.Prelude.{Some, None}
use Rattle.register.specs.Area.{shape_of, len, memory}
use Rattle.register.specs.Calls.{is_own, shown}
use Rattle.area.specs.declared.Layout.{Layout}
use Rattle.area.specs.Words.{layout_of, desk_word, memory_of, its_shape}
use Rattle.testing.proofs.TestResult.{Passes}
use Rattle.place.specs.Places.{record_at, record_range, told, place_of}
use Rattle.place.specs.Promises.{RangesAreShown, PlacesAreShown}
use Rattle.place.proofs.Resting.{own_facts}

module _ (a : List ℕ) (r : ℕ) where
  -- ---- where the code finds them

  -- not the reader's
  pub range_none : is_own a r ≡ false → None ≡ record_range a r
  unfolding record_range
  range_none e = rw e

  -- the reader's, by the area's layout
  pub range_own : {p : Layout} {start words : ℕ} → Passes p a → is_own a r ≡ true
      → start ≡ desk_word (its_shape p) r p.kept → words ≡ memory_of p a (len r)
      → Some (record { start = start; end = start + words }) ≡ record_range a r
  unfolding record_range
  range_own h e f g = rw (e, f, g, h.layout)

  -- and the place for C
  pub place_own : {p : Layout} {at words : ℕ} → p ≡ layout_of (shape_of a) → is_own a r ≡ true
      → at ≡ desk_word (its_shape p) r p.kept → words ≡ memory_of p a (len r)
      → record { yes = 1; at = at; len = words } ≡ place_of a r
  unfolding place_of
  place_own l e f g = rw (e, f, g, l)

  -- it says the same as the range
  pub told_is : told (record_range a r) ≡ place_of a r
  unfolding record_range place_of
  told_is = go (is_own a r) refl
    where
      go : (b : Bool) → is_own a r ≡ b → told (record_range a r) ≡ place_of a r
      go true e = rw (e, add-sub_cancel_left)
      go false e = rw e

  -- ---- what they say

  own_range : is_own a r ≡ true → record_range a r
      ≡ Some (record { start = record_at a r; end = record_at a r + memory a (len r) })
  unfolding record_range
  own_range e = rw e

  own_within : is_own a r ≡ true → record_at a r + memory a (len r) ≤ length a
  own_within e = (own_facts a r e refl).within

  pub ranges_are_shown : RangesAreShown a r
  unfolding record_range shown
  ranges_are_shown = go (is_own a r) refl
    where
      go : (b : Bool) → is_own a r ≡ b → RangesAreShown a r
      go true e =
          let within = own_within e in
          let this = own_range e in
          record {
            there =
                λ w f d.
                let it : w ≡ record { start = record_at a r; end = record_at a r + memory a (len r) } = cc in
                rw (it, e, add-sub_cancel_left);
            within =
                λ w f.
                let it : w ≡ record { start = record_at a r; end = record_at a r + memory a (len r) } = cc in
                rw it (omega arith, within);
            default = λ f d. absurd cc;
            own = rw e;
          }
      go false e =
          let none = range_none e in
          record {
            there = λ w f d. absurd cc;
            within = λ w f. absurd cc;
            default = λ f d. rw e;
            own = rw e;
          }

  pub places_are_shown : PlacesAreShown a r
  unfolding place_of shown
  places_are_shown = go (is_own a r) refl
    where
      go : (b : Bool) → is_own a r ≡ b → PlacesAreShown a r
      go true e =
          let yes_is : (place_of a r).yes ≡ 1 = rw e in
          record {
            there = λ y d. rw e;
            within = λ y. rw e (own_within e);
            default = λ z d. absurd (omega (arith, z, yes_is));
            nothing = λ z. absurd (omega (arith, z, yes_is));
            either = omega (arith, yes_is);
          }
      go false e =
          let yes_is : (place_of a r).yes ≡ 0 = rw e in
          record {
            there = λ y d. absurd (omega (arith, y, yes_is));
            within = λ y. absurd (omega (arith, y, yes_is));
            default = λ z d. rw e;
            nothing = λ z. rw e;
            either = omega (arith, yes_is);
          }
