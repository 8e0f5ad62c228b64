-- Which call answers which number: each row of `Numbers`, both ways.
--     making_number, read_number, write_number, step_number    the rows of each call
-- Assumes nothing.
use mathlib.Core.Path.{◌≡◌, refl, sym, subst, ◌∙◌}
use mathlib.Core.Logic.{◌≢◌, ◌↔◌, ◌⊎◌, inl, inr, ⊎_elim}
use mathlib.Core.Bool.{Bool, true, false, true≢false, cond, ◌&&◌}
use mathlib.Core.List.{List, [], ◌∷◌}
use Prim.Native.Nat.{ℕ, suc, ◌≤◌, ◌<◌}
use native.Mathlib.Decide.{ℕ_discrete}
use native.Mathlib.Omega.{arith}
use lib.Dec.{eqb, leb, ltb}
use lib.ListN.{length}
use Rattle.theory.specs.Place.{Record, Memory}
use Rattle.theory.specs.Table.{total}
use Rattle.register.specs.Shape.{Shape, table, in_range, known_form}
use Rattle.register.specs.Area.{shape_of, readers, is_area, undamaged, memory, current, counter, r_start}
use Rattle.register.specs.Area.{r_end, size, phase, last, pos, len, writer_phase, last_slot, in_hand}
use Rattle.register.specs.Area.{writes_ended, most_writes}
use Rattle.register.specs.Conditions.{KnownForm, InRange, T_of, AnArea, Undamaged}
use Rattle.register.specs.Steps
use Rattle.register.specs.Steps.{Plan, refuse, accept, reader_step, writer_step, free, Move, read, write}
use Rattle.register.specs.Steps.{step, mover}
use Rattle.register.specs.Calls.{refused, made, carried_out, answered, read_begun, write_begun, stepped}
use Rattle.register.specs.Numbers.{Row, ◌if◌, Given, make_rows, Idle, reader, writer, LastNotFree, Overfull}
use Rattle.register.specs.Numbers.{gone, bound, read_rows, write_rows, step_rows, Numbers}
use Rattle.theory.proofs.Tests.{passed, true_passes, both, end, next, at_number, if_true, if_equal, if_less}
use Rattle.theory.proofs.Tests.{differ_and_same, not_differ_and_same}
use Rattle.register.proofs.Facts.{known_is, its_plan, every_call, range_facts, number_of, range_is, area_is}
use Rattle.register.proofs.Facts.{undamaged_is, own_is}
use Rattle.register.proofs.Rows.{Says, unless_not, unless_below, unless_at_most, unless_equal, row, passes}
use Rattle.register.proofs.Rows.{holds, nothing_more}

-- ---- making

module _ (k : Shape) (v : Record) (a : List ℕ) where
  unfit : Says (known_form k.form && in_range k) ((¬ KnownForm k.form) ⊎ (¬ InRange k))
  unfit = (λ e. go (known_form k.form) (in_range k) refl refl e, fits)
    where
      go : (x y : Bool) → known_form k.form ≡ x → in_range k ≡ y → x && y ≡ false
          → (¬ KnownForm k.form) ⊎ (¬ InRange k)
      go true true d e f = absurd (true≢false f)
      go true false d e f = inr (λ r. true≢false (sym ((range_is k).1 r) ∙ e))
      go false y d e f = inl (λ r. true≢false (sym ((known_is k.form).1 r) ∙ d))

      fits : known_form k.form && in_range k ≡ true → ¬ ((¬ KnownForm k.form) ⊎ (¬ InRange k))
      fits e =
          let (f, r) = both (known_form k.form) (in_range k) (true_passes _ e) in
          ⊎_elim (λ d. d ((known_is k.form).0 (passed _ f))) (λ d. d (range_facts k r))

  another_length : Says (eqb (length a) (total (table k))) (length a ≢ T_of k)
  another_length =
      let s = unless_equal (length a) (total (table k)) in
      (λ e d. s.0 e (omega (arith, d)), λ e d. s.1 e (λ f. d (omega (arith, f))))

  making_number : (i : ℕ) → ((made k v a).number ≡ i) ↔ Given (make_rows k v a) i
  unfolding made
  making_number i =
      row (λ x. x.number) (known_form k.form && in_range k) _ (refused 9 a) unfit
      (row (λ x. x.number) (eqb (length a) (total (table k))) _ (refused 10 a) another_length
      (row (λ x. x.number) (leb (length v) k.c) _ (refused 4 a) (unless_at_most (length v) k.c) nothing_more))

-- ---- calls on an existing area: 1 and 2 in front of what the plan gives

carried_number : (p : ℕ) (a : List ℕ) (x : Plan) → (carried_out p a x).number ≡ number_of x
unfolding carried_out
carried_number p a (refuse k) = refl
carried_number p a (accept stores ends) = refl

tested : (a : List ℕ) (x : Move) {l : List Row} {k : ℕ}
    → (is_area a ≡ true → undamaged a ≡ true → (number_of (its_plan a x) ≡ k) ↔ Given l k)
    → ((answered a x).number ≡ k) ↔ Given (1 if (¬ AnArea a) ∷ 2 if (¬ Undamaged a) ∷ l) k
unfolding answered
tested a x {l} {k} rest = rw (every_call (shape_of a) x) (go (is_area a) refl (undamaged a) refl)
  where
    go : (b : Bool) → is_area a ≡ b → (u : Bool) → undamaged a ≡ u
        → ((cond b (cond u (carried_out (mover (shape_of a) x) a (its_plan a x)) (refused 2 a)) (refused 1 a)).number
        ≡ k)
        ↔ Given (1 if (¬ AnArea a) ∷ 2 if (¬ Undamaged a) ∷ l) k
    go false e u f = holds ((unless_not (is_area a) (area_is a)).0 e)
    go true e false f =
        passes ((unless_not (is_area a) (area_is a)).1 e) (holds ((unless_not (undamaged a) (undamaged_is a)).0 f))
    go true e true f =
        passes ((unless_not (is_area a) (area_is a)).1 e)
        (passes ((unless_not (undamaged a) (undamaged_is a)).1 f)
        (subst (λ j. (j ≡ k) ↔ Given l k) (sym (carried_number (mover (shape_of a) x) a (its_plan a x)))
        (rest e f)))

read_number : (a : List ℕ) (r k : ℕ) → ((read_begun a r).number ≡ k) ↔ Given (read_rows a r) k
read_number a r k =
    tested a (read r) λ e f.
    row number_of (ltb r (readers a)) _ (refuse 3) (unless_below r (readers a))
    (row number_of (eqb (memory a (phase r)) 0) _ (refuse 5) (unless_equal (memory a (phase r)) 0) nothing_more)

write_number : (a : List ℕ) (v : Record) (k : ℕ) → ((write_begun a v).number ≡ k) ↔ Given (write_rows a v) k
write_number a v k =
    tested a (write v) λ e f.
    row number_of (leb (length v) (shape_of a).c) _ (refuse 4) (unless_at_most (length v) (shape_of a).c)
    (row number_of (eqb (memory a writer_phase) 0) _ (refuse 5) (unless_equal (memory a writer_phase) 0)
    (row number_of (ltb (memory a writes_ended) most_writes) _ (refuse 7)
    (unless_below (memory a writes_ended) most_writes) nothing_more))

-- ---- a step: the rows behind 1 and 2

module _ (a : List ℕ) (p k : ℕ) where
  abbrev n : ℕ
  n = readers a

  abbrev m : Memory
  m = memory a

  abbrev last_rows : List Row
  last_rows = 8 if LastNotFree a p ∷ 2 if Overfull a p ∷ []

  -- x gives what the rows from 3 on give
  abbrev Meets : Plan → Type 1
  Meets x = (number_of x ≡ k) ↔ Given (3 if (n < p) ∷ 6 if Idle a p ∷ last_rows) k

  module _ (l : p < n) where
    rests : Idle a p → m (phase p) ≡ 0
    rests (reader h e) = e
    rests (writer h e) = absurd (omega (arith, h))

    no_look : ¬ LastNotFree a p
    no_look h = omega (arith, h.writer)

    -- a busy reader
    busy : {i : ℕ} → m (phase p) ≢ 0 → (i ≡ k) ↔ Given (2 if Overfull a p ∷ []) k
        → (i ≡ k) ↔ Given (3 if (n < p) ∷ 6 if Idle a p ∷ last_rows) k
    busy d rest = passes (λ h. omega arith) (passes (λ h. d (rests h)) (passes no_look rest))

    goes_on : m (phase p) ≢ 0 → m (phase p) ≢ 2 → m (phase p) ≢ 3
        → (0 ≡ k) ↔ Given (3 if (n < p) ∷ 6 if Idle a p ∷ last_rows) k
    goes_on d e f = busy d (passes free_of nothing_more)
      where
        free_of : ¬ Overfull a p
        free_of (gone h x y) = e x
        free_of (bound h x y) = f x

    lifts_end : m (phase p) ≡ 2 → Says (ltb (m (r_end (m (last p)))) n) (Overfull a p)
    lifts_end e = (λ f. let h = s.0 f in gone l e (omega arith), there)
      where
        s : Says (ltb (m (r_end (m (last p)))) n) (n ≤ m (r_end (m (last p))))
        s = unless_below (m (r_end (m (last p)))) n

        there : ltb (m (r_end (m (last p)))) n ≡ true → ¬ Overfull a p
        there f (gone h x y) = s.1 f (omega arith)
        there f (bound h x y) = omega arith

    lifts_counter : m (phase p) ≡ 3 → Says (ltb (counter (m current)) n) (Overfull a p)
    lifts_counter e = (λ f. let h = s.0 f in bound l e (omega arith), there)
      where
        s : Says (ltb (counter (m current)) n) (n ≤ counter (m current))
        s = unless_below (counter (m current)) n

        there : ltb (counter (m current)) n ≡ true → ¬ Overfull a p
        there f (gone h x y) = omega arith
        there f (bound h x y) = s.1 f (omega arith)

    reader_number : Undamaged a → Meets (reader_step (shape_of a) m p)
    unfolding reader_step
    reader_number w =
        at_number Meets (m (phase p)) 0 (m (phase p)) _ (refuse 2) (omega arith)
        (next (λ e. passes (λ h. omega arith) (holds (reader l e)))
        (next (λ e. goes_on (λ z. omega arith) (λ z. omega arith) (λ z. omega arith))
        (next (λ e. busy (λ z. omega arith) (row number_of _ _ (refuse 2) (lifts_end e) nothing_more))
        (next (λ e. busy (λ z. omega arith) (row number_of _ _ (refuse 2) (lifts_counter e) nothing_more))
        (next (λ e. if_equal Meets (m (size (m (last p)))) 0 _ _ (λ x. later e (omega arith))
        (λ x. later e (omega arith)))
        (next (λ e. if_equal Meets (suc (m (pos p))) (m (len p)) _ _ (λ x. later e (omega arith))
        (λ x. later e (omega arith))) end))))))
        (λ h. absurd (omega (arith, (w.desk p l).phases)))
      where
        later : {j : ℕ} → m (phase p) ≡ j → 3 < j
            → (0 ≡ k) ↔ Given (3 if (n < p) ∷ 6 if Idle a p ∷ last_rows) k
        later e h = goes_on (λ z. omega arith) (λ z. omega arith) (λ z. omega arith)

  module _ (i : p ≡ n) where
    at_rest : Idle a p → m writer_phase ≡ 0
    at_rest (reader h e) = absurd (omega arith)
    at_rest (writer h e) = e

    no_reader : ¬ Overfull a p
    no_reader (gone h x y) = omega arith
    no_reader (bound h x y) = omega arith

    -- a busy writer
    writes_on : {j : ℕ} → m writer_phase ≢ 0 → (j ≡ k) ↔ Given last_rows k
        → (j ≡ k) ↔ Given (3 if (n < p) ∷ 6 if Idle a p ∷ last_rows) k
    writes_on d rest = passes (λ h. omega arith) (passes (λ h. d (at_rest h)) rest)

    looks_not : m writer_phase ≢ 0 → m writer_phase ≢ 1
        → (0 ≡ k) ↔ Given (3 if (n < p) ∷ 6 if Idle a p ∷ last_rows) k
    looks_not d e = writes_on d (passes (λ h. e h.looks) (passes no_reader nothing_more))

    looks_at : m writer_phase ≡ 1 → Meets (Steps.looks (shape_of a) m)
    looks_at e =
        if_true Meets (free m) _ _ (λ f. found (λ h. taken_not f h.taken))
        (λ f. if_equal Meets (m in_hand) (suc n) (refuse 8) _
        (λ x. writes_on (λ z. omega arith) (holds (none_free f x)))
        (λ x. found (λ h. let y = h.at_the_end in x (omega arith))))
      where
        found : ¬ LastNotFree a p → (0 ≡ k) ↔ Given (3 if (n < p) ∷ 6 if Idle a p ∷ last_rows) k
        found d = writes_on (λ z. omega arith) (passes d (passes no_reader nothing_more))

        taken_not : free m ≡ true
            → ¬ ((m in_hand ≡ m last_slot) ⊎ (m (r_start (m in_hand)) ≢ m (r_end (m in_hand))))
        taken_not f = let (d, s) = differ_and_same _ _ _ _ f in ⊎_elim d (λ g. g s)

        none_free : free m ≡ false → m in_hand ≡ suc n → LastNotFree a p
        none_free f x =
            record {
              writer = i;
              looks = e;
              at_the_end = omega arith;
              taken = go (ℕ_discrete (m in_hand) (m last_slot));
            }
          where
            go : Dec (m in_hand ≡ m last_slot)
                → (m in_hand ≡ m last_slot) ⊎ (m (r_start (m in_hand)) ≢ m (r_end (m in_hand)))
            go (yes y) = inl y
            go (no y) = inr (not_differ_and_same _ _ _ _ f y)

    writer_number : Undamaged a → Meets (writer_step (shape_of a) m)
    unfolding writer_step
    writer_number w =
        at_number Meets (m writer_phase) 0 (m writer_phase) _ (refuse 2) (omega arith)
        (next (λ e. passes (λ h. omega arith) (holds (writer i e)))
        (next looks_at
        (next (λ e. later e (omega arith))
        (next (λ e. later e (omega arith))
        (next (λ e. later e (omega arith))
        (next (λ e. later e (omega arith))
        (next (λ e. later e (omega arith)) (next (λ e. later e (omega arith)) end))))))))
        (λ h. absurd (omega (arith, w.writer.phases)))
      where
        later : {j : ℕ} → m writer_phase ≡ j → 1 < j
            → (0 ≡ k) ↔ Given (3 if (n < p) ∷ 6 if Idle a p ∷ last_rows) k
        later e h = looks_not (λ z. omega arith) (λ z. omega arith)

  step_number : ((stepped a p).number ≡ k) ↔ Given (step_rows a p) k
  step_number =
      tested a (step p) λ e f.
      let w = (undamaged_is a).0 f in
      if_less Meets p n (reader_step (shape_of a) m p) _ (λ l. reader_number l w)
      (λ l. if_equal Meets p n (writer_step (shape_of a) m) (refuse 3) (λ i. writer_number i w)
      (λ d. holds (omega arith)))

-- ---- the theorem

pub numbers : Numbers
numbers =
    record { making = making_number; reads = read_number; writes = write_number; steps = step_number; shows = own_is }
