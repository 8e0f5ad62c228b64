-- Making on any form, N, C, record and slice: when it is accepted, what it then leaves, and that a refusal changes
-- nothing.
-- Assumes nothing.
use mathlib.Core.Path.{◌≡◌, refl, ◌∙◌, ap}
use mathlib.Core.Logic.{◌≢◌, ⊎_elim}
use mathlib.Core.Bool.{true, ◌&&◌}
use mathlib.Core.List.{List}
use Prim.Native.Nat.{ℕ, ◌≤◌}
use native.Mathlib.Omega.{arith}
use lib.Dec.{eqb, leb, leb→le}
use lib.ListN.{length}
use Rattle.theory.specs.Place.{Record}
use Rattle.theory.specs.Table.{total, view}
use Rattle.register.specs.Area.{memory, undamaged}
use Rattle.register.specs.Shape.{table, Shape, in_range, known_form}
use Rattle.register.specs.Calls.{Answer, refused, fresh, made, making_tests}
use Rattle.atomic.specs.Demands.{Refused, Makes}
use Rattle.theory.proofs.Tests.{true_passes, both, if_true}
use Rattle.register.specs.Conditions.{KnownForm, InRange, T_of}
use Rattle.register.specs.Numbers.{by_none, by_later}
use Rattle.register.proofs.Numbers.{numbers}
use Rattle.register.proofs.Facts.{range_facts, sound_area, unless_all}
use Rattle.atomic.proofs.Called.{refused_is}
use Rattle.atomic.proofs.Making.{first_memory, fresh_view, fresh_shape, fresh_area, first_whole}

-- ---- making that was accepted

pub record Made (shape : Shape) (v : Record) (a : List ℕ) : Type 0 where
  pub taken : known_form shape.form && in_range shape ≡ true
  pub range : InRange shape
  pub short : length v ≤ shape.c
  pub area : a ≡ fresh shape v

pub made_well : (shape : Shape) (v : Record) (slice : List ℕ) → (made shape v slice).number ≡ 0
    → Made shape v (made shape v slice).area
unfolding made
made_well shape v slice =
    if_true P (known_form shape.form && in_range shape) _ (refused 9 slice)
    (λ e.
    if_true P (eqb (length slice) (total (table shape))) _ (refused 10 slice)
    (λ f.
    if_true P (leb (length v) shape.c) _ (refused 4 slice)
    (λ g z.
    record {
      taken = e;
      range = range_facts shape (both (known_form shape.form) (in_range shape) (true_passes _ e)).1;
      short = leb→le _ _ (true_passes _ g);
      area = refl;
    }) (λ g z. absurd (omega arith))) (λ f z. absurd (omega arith))) (λ e z. absurd (omega arith))
  where
    P : Answer → Type 0
    P x = x.number ≡ 0 → Made shape v x.area

-- ---- the fresh area

module _ (shape : Shape) (v : Record) (range : InRange shape) (short : length v ≤ shape.c) where
  pub fresh_memory : memory (fresh shape v) ≡ first_memory shape v
  fresh_memory =
      ap (λ k. view (table k) (fresh shape v)) (fresh_shape shape v short) ∙ fresh_view shape v short

  pub fresh_sound : undamaged (fresh shape v) ≡ true
  fresh_sound =
      sound_area (fresh shape v) shape (fresh_shape shape v short)
      (rw fresh_memory (first_whole shape v (omega (arith, range.few_readers)) short))

-- ---- the theorem

-- a known form, numbers in range, as many words as T, a record that fits
pub accepted_when : (shape : Shape) (v : Record) (a : List ℕ) → KnownForm shape.form → InRange shape
    → length a ≡ T_of shape → length v ≤ shape.c → (made shape v a).number ≡ 0
accepted_when shape v a known range exact short =
    (numbers.making shape v a 0).1
    (by_later (⊎_elim (λ d. d known) (λ d. d range))
    (by_later (λ d. d exact) (by_later (λ h. omega arith) (by_none refl))))

refused_made : (shape : Shape) (v : Record) (a : List ℕ) → (made shape v a).number ≢ 0
    → Refused a (made shape v a)
unfolding made
refused_made shape v a =
    unless_all (λ y. y.number ≢ 0 → Refused a y) (λ i. refused i a) (making_tests shape v a) _
    (λ i d. refused_is i a) (λ d. absurd (d refl))

pub makes : Makes
makes =
    record {
      sound = λ shape v a z.
          let w = made_well shape v a z in
          rw w.area (fresh_area shape v w.short w.taken, fresh_sound shape v w.range w.short);
      refused = refused_made;
    }
