-- A fresh area: it is an area, it is undamaged, and everything that a run keeps holds at its beginning.
--     first_memory, at_desk               the fresh memory; desks are 0
--     fresh_length, fresh_view, fresh_shape, fresh_readers, fresh_area   the words of a fresh area
--     first_whole                         it is undamaged
--     first_counted, first_told, first_bounded, first_dated, first_clean   what a run keeps
-- Assumes nothing.
use mathlib.Core.Path.{◌≡◌, refl, sym, ap, ◌∙◌, fun_ext}
use mathlib.Core.Logic.{◌≢◌}
use mathlib.Core.Bool.{Bool, true, false, cond, ◌&&◌}
use mathlib.Core.List.{[], ◌∷◌}
use Prim.Native.Nat.{ℕ, zero, suc, ◌≤◌, ◌<◌}
use native.Mathlib.Omega.{arith}
use lib.Dec.{eqb, ltb, leb, ltb→lt, le→leb, eqb_refl, lit<}
use lib.ListN.{length, get_or, replicate, length-replicate}
use Rattle.theory.specs.Place.{Record, Place, Memory, ◌≔◌, apply}
use Rattle.theory.specs.Table.{total, address, has, view}
use Rattle.register.specs.Area.{shape_of, header, current, index, counter, readers, slot_field, size, contents}
use Rattle.register.specs.Area.{desk_field, writer_field, last, phase, is_area}
use Rattle.register.specs.Shape.{table, Shape, slots_at, desks_at, writer_at, known_form, in_range, range_tests}
use Rattle.theory.specs.Lists.{all, none, also}
use Rattle.register.specs.Calls.{making, fresh}
use Rattle.theory.specs.History.{nothing_yet}
use Rattle.theory.proofs.Tests.{passed, all_pass, same_either, both, true_passes}
use Rattle.theory.proofs.Sums.{sum_same, sum_zero, sum_ones}
use Rattle.theory.proofs.Places.{copied_elsewhere, row, row_copied}
use Rattle.theory.proofs.Tables.{view_store, view_here, length_store, Has, AllHas}
use Rattle.register.proofs.Body.{all_has, has_header, body_slot, body_contents, body_copied}
use Rattle.atomic.proofs.Balance.{idle}
use Rattle.atomic.proofs.Counting.{is_bound, bound, bound_away, Counted}
use Rattle.register.specs.Conditions.{Whole}
use Rattle.theory.proofs.Placed.{sound_at_first}
use Rattle.theory.proofs.Copying.{not_yet, nothing_written}
use Rattle.atomic.proofs.Told.{Told}
use Rattle.atomic.proofs.StepCounts.{at_rest, no_steps}
use Rattle.atomic.proofs.Bounds.{Bounded}
use Rattle.atomic.proofs.Dates.{Dated, all_ended}
use Rattle.atomic.proofs.Clean.{Clean}

-- all words 0
zeros : (k j : ℕ) → get_or {A = ℕ} (replicate k 0) j 0 ≡ 0
zeros zero j = refl
zeros (suc k) zero = refl
zeros (suc k) (suc j) = zeros k j

module _ (shape : Shape) (v : Record) where
  abbrev n : ℕ
  n = shape.n

  -- the one fresh memory
  abbrev pub first_memory : Memory
  first_memory = apply (λ p. 0) (making shape v)

  abbrev blank : Memory
  blank =
      apply (λ p. 0)
      (header 0 ≔ shape.form ∷ header 1 ≔ n ∷ header 2 ≔ shape.c ∷ header 3 ≔ total (table shape)
      ∷ header 4 ≔ slots_at shape ∷ header 5 ≔ desks_at shape ∷ header 6 ≔ writer_at shape
      ∷ current ≔ n ∷ size 0 ≔ length v ∷ [])

  contents_apart : (i j : ℕ) → contents 0 i ≡ contents 0 j → i ≡ j
  contents_apart i j e = ap (λ p. p.column) e

  elsewhere : (q : Place) → ((j : ℕ) → q ≢ contents 0 j) → first_memory q ≡ blank q
  elsewhere q d = copied_elsewhere (contents 0) contents_apart blank v 0 q d

  at_header : (i : ℕ) → first_memory (header i) ≡ blank (header i)
  at_header i = elsewhere (header i) (λ j e. let z = ap (λ (p : Place). p.part) e in absurd (omega arith))

  at_slot : (f s : ℕ) → f < 4 → first_memory (slot_field f s) ≡ blank (slot_field f s)
  at_slot f s l = elsewhere (slot_field f s) (λ j e. let z = ap (λ (p : Place). p.field) e in absurd (omega arith))

  pub at_desk : (f r : ℕ) → first_memory (desk_field f r) ≡ 0
  at_desk f r = elsewhere (desk_field f r) (λ j e. let z = ap (λ (p : Place). p.part) e in absurd (omega arith))

  at_writer : (f : ℕ) → first_memory (writer_field f) ≡ 0
  at_writer f = elsewhere (writer_field f) (λ j e. let z = ap (λ (p : Place). p.part) e in absurd (omega arith))

  at_contents : row (length v) (λ j. first_memory (contents 0 j)) ≡ v
  at_contents = row_copied (contents 0) contents_apart blank v

  -- ---- the words

  module _ (short : length v ≤ shape.c) where
    making_has : AllHas (table shape) (making shape v)
    making_has =
        let h : (i : ℕ) → lib.Dec.T (ltb i 8)
        → Has (table shape) (record { part = 0; field = i; row = 0; column = 0 }) = λ i t. has_header shape i
        (ltb→lt i 8 t) in
        also (h 0 tt)
        (also (h 1 tt) (also (h 2 tt) (also (h 3 tt) (also (h 4 tt) (also (h 5 tt) (also (h 6 tt) (also (h 7 tt)
        (also (body_slot shape 2 0 (omega arith) (omega arith)).has
        (all_has shape
        (body_copied shape (contents 0) (λ i k. body_contents shape 0 i (omega arith) k) v 0 (omega arith)))))))))))

    pub fresh_length : length (fresh shape v) ≡ total (table shape)
    fresh_length = length_store (table shape) (replicate (total (table shape)) 0) (making shape v)
        ∙ length-replicate (total (table shape)) 0

    pub fresh_view : view (table shape) (fresh shape v) ≡ first_memory
    fresh_view =
        view_store (table shape) (replicate (total (table shape)) 0) (making shape v)
        (length-replicate (total (table shape)) 0) making_has
        ∙ ap (λ m. apply m (making shape v)) (fun_ext empty)
      where
        empty : (p : Place) → view (table shape) (replicate (total (table shape)) 0) p ≡ 0
        empty p =
            ap (λ x. cond (has (table shape) p) x 0) (zeros (total (table shape)) (address (table shape) p))
            ∙ same_either (has (table shape) p) 0

    -- words 0 to 6
    fresh_word : (i : ℕ) → i < 8 → get_or (fresh shape v) (address (table shape) (header i)) 0 ≡ blank (header i)
    fresh_word i l =
        sym (view_here (table shape) (fresh shape v) (header i) (has_header shape i l))
        ∙ ap (λ m. m (header i)) fresh_view
        ∙ at_header i

    pub fresh_shape : shape_of (fresh shape v) ≡ shape
    fresh_shape = λ i.
        record { form = fresh_word 0 (lit< tt) i; n = fresh_word 1 (lit< tt) i; c = fresh_word 2 (lit< tt) i }

    pub fresh_readers : readers (fresh shape v) ≡ n
    fresh_readers = fresh_word 1 (lit< tt)

    pub fresh_area : known_form shape.form && in_range shape ≡ true → is_area (fresh shape v) ≡ true
    unfolding is_area
    fresh_area taken =
        rw (
          fresh_length,
          fresh_word 0 (lit< tt),
          fresh_word 1 (lit< tt),
          fresh_word 2 (lit< tt),
          fresh_word 3 (lit< tt),
          fresh_word 4 (lit< tt),
          fresh_word 5 (lit< tt),
          fresh_word 6 (lit< tt),
        )
        (passed _
        (all_pass
        (leb 8 T ∷ known_form shape.form ∷ all (range_tests shape) ∷ eqb T T
        ∷ eqb (desks_at shape) (desks_at shape)
        ∷ eqb (writer_at shape) (writer_at shape) ∷ eqb T T ∷ [])
        (also (le→leb 8 T (omega arith))
        (also tests.0
        (also tests.1
        (also (eqb_refl T)
        (also (eqb_refl (desks_at shape)) (also (eqb_refl (writer_at shape)) (also (eqb_refl T) none)))))))))
      where
        T : ℕ
        T = total (table shape)

        tests : lib.Dec.T (known_form shape.form) × lib.Dec.T (in_range shape)
        tests = both (known_form shape.form) (in_range shape) (true_passes _ taken)

  -- ---- what a run keeps

  pub first_whole : n < 4294967296 → length v ≤ shape.c → Whole shape first_memory
  first_whole big short =
      record {
        word = rw (at_header 7) (record { slot = omega arith; count = omega arith });
        slot = λ s k.
            rw (at_slot 0 s (lit< tt), at_slot 1 s (lit< tt), at_slot 2 s (lit< tt))
            (record { start = omega arith; end = omega arith; words = small (eqb s 0) });
        desk = λ r k.
            rw (at_desk 0 r, at_desk 1 r, at_desk 2 r, at_desk 3 r, at_desk 5 r)
            (record {
              phases = omega arith;
              slot = omega arith;
              part = omega arith;
              words = omega arith;
              flag = omega arith;
              copying = λ y. absurd (omega arith);
            });
        writer =
            rw (at_writer 0, at_writer 1, at_writer 2, at_writer 3, at_writer 4, at_writer 5, at_writer 6)
            (record {
              phases = omega arith;
              last_one = omega arith;
              hand_one = omega arith;
              part = omega arith;
              words = omega arith;
              before = record { slot = omega arith; count = omega arith };
              copying = λ y. absurd (omega arith);
              unmoved = λ y. refl;
              room = λ y. absurd (y refl);
            });
      }
    where
      small : (b : Bool) → cond b (length v) 0 ≤ shape.c
      small true = short
      small false = omega arith

  module _ (big : n < 4294967296) where
    first_index : index n ≡ 0
    first_index = omega arith

    first_counter : counter n ≡ n
    first_counter = omega arith

    -- every reader is bound to slot 0
    bound_first : bound n first_memory 0 ≡ n
    unfolding bound
    bound_first =
        sum_same n (λ r. is_bound 0 (first_memory (phase r)) (first_memory (last r))) (λ r. 1)
        (λ r l. rw (at_desk 0 r, at_desk 1 r) refl)
        ∙ sum_ones n

    bound_none : (s : ℕ) → s ≢ 0 → bound n first_memory s ≡ 0
    unfolding bound
    bound_none s d =
        sum_same n (λ r. is_bound s (first_memory (phase r)) (first_memory (last r))) (λ r. 0)
        (λ r l. bound_away s (first_memory (phase r)) (first_memory (last r)) (λ e. d (sym e ∙ at_desk 1 r)))
        ∙ sum_zero n

    pub first_counted : Counted shape first_memory
    first_counted =
        record {
          lasts = λ r l. rw (at_desk 1 r) (omega arith);
          counts = rw (at_header 7, first_index, first_counter)
              (record {
                away = 0;
                slot = omega arith;
                stage = idle (at_writer 0) (at_writer 1) refl;
                now = rw (at_slot 1 0 (lit< tt)) (omega (arith, bound_first));
                settled = λ s l d e.
                    at_slot 0 s (lit< tt) ∙ sym (rw (at_slot 1 s (lit< tt)) (omega (arith, bound_none s d)));
              });
        }

    pub first_told : Told n v first_memory nothing_yet
    first_told =
        record {
          sound = sound_at_first v;
          began = λ p. omega arith;
          newest_one = rw (at_header 7, first_index) (rw (at_slot 2 0 (lit< tt)) at_contents, at_slot 3 0 (lit< tt));
          reader = λ r l. rw (at_desk 0 r) (not_yet 0 (omega arith));
          writer = rw (at_writer 0, at_writer 6) (nothing_written (omega arith));
        }

    pub first_bounded : (all_moves : ℕ) → Bounded shape v all_moves first_memory nothing_yet
    first_bounded all_moves =
        record {
          reads = none;
          writes = none;
          reader = λ r l. rw (at_desk 0 r) at_rest;
          writer = rw (at_writer 0) no_steps;
        }

    pub first_dated : (all_moves : ℕ) → Dated all_moves first_memory nothing_yet
    first_dated all_moves =
        record { ends = all_ended (λ e. omega (arith, at_writer 0)) none; times = none; ages = none }

    pub first_clean : Clean n first_memory
    first_clean =
        record {
          nobody = at_slot 1 (index (first_memory current)) (lit< tt);
          turned = λ r l e. absurd (omega (arith, at_desk 0 r));
        }
