-- Every operation ends: on an area that a run left nobody busy is refused, and what is under way is within its bound.
-- Assumes nothing.
use mathlib.Core.Path.{◌≡◌, refl, sym, ap, subst, ◌∙◌}
use mathlib.Core.Logic.{◌≢◌}
use mathlib.Core.Bool.{true}
use mathlib.Core.List.{List}
use Prim.Native.Nat.{ℕ, suc, ◌+◌, ◌≤◌, ◌<◌}
use native.Mathlib.Decide.{ℕ_discrete}
use native.Mathlib.Omega.{arith}
use lib.ListN.{length}
use borrow.Author.Tests.{eq-eqb, ne_eqb}
use Rattle.theory.specs.Place.{Record}
use Rattle.register.specs.Shape.{Shape}
use Rattle.register.specs.Area.{shape_of, size, slot_write_number, contents, phase, last, len, desk_write_number}
use Rattle.register.specs.Area.{writer_phase, writer_len, is_area, memory, undamaged}
use Rattle.register.specs.Steps
use Rattle.register.specs.Steps.{Plan, refuse, accept, read_begins, write_begins, Move, read, write, step, mover}
use Rattle.register.specs.Calls.{carried_out, answered}
use Rattle.theory.specs.History.{Write, History}
use Rattle.atomic.specs.Demands.{NeverStuck, record_of, Ends}
use Rattle.theory.proofs.Places.{row, row_length}
use Rattle.theory.proofs.Placed.{Placed, at_start, at_newest, further_back, Where}
use Rattle.register.proofs.Facts.{number_of, every_call, its_plan}
use Rattle.atomic.proofs.Going.{read_begin_number, write_begin_number, step_number}
use Rattle.atomic.proofs.StepCounts.{few_early, few_late}
use Rattle.atomic.proofs.Promise.{Good, whole, guarded, run_ends_good}

-- a read shows the record of the write that has its number
placed_numbered : {first : Record} {begin end : ℕ} {v : Record} {back : ℕ} {writes : List Write} (n : ℕ)
    → Placed first begin end v back writes → back + n ≡ length writes → v ≡ record_of first writes n
placed_numbered n (at_start e) q = e
placed_numbered n (at_newest {writes = writes} p e) q = rw (eq-eqb n (suc (length writes)) (omega arith)) e
placed_numbered n (further_back {writes = writes} p rest) q =
    rw (ne_eqb n (suc (length writes)) (λ z. omega arith)) (placed_numbered n rest (omega arith))

where_numbered : {first : Record} {begin end n : ℕ} {v : Record} {writes : List Write}
    → Where first begin end v n writes → v ≡ record_of first writes n
where_numbered {n = n} a = placed_numbered n a.placed a.number

-- on an undamaged area a call gives the number of its plan
plan_number : (a : List ℕ) (x : Move) → is_area a ≡ true → undamaged a ≡ true → (answered a x).number
    ≡ number_of (its_plan a x)
unfolding answered carried_out
plan_number a x ea es = rw (ea, every_call (shape_of a) x, es) (go (its_plan a x))
  where
    go : (y : Plan) → (carried_out (mover (shape_of a) x) a y).number ≡ number_of y
    go (refuse k) = refl
    go (accept stores ends) = refl

module _ {shape : Shape} {first : Record} {all_moves : ℕ} {a : List ℕ} {h : History}
    (g : Good shape first all_moves a h) where
  abbrev n : ℕ
  n = shape.n

  goes : NeverStuck shape a
  goes =
      record {
        reads = λ r.
            plan_number a (read r) g.area g.sound
            ∙ ap (λ j. number_of (read_begins j (memory a) r)) g.its_shape
            ∙ read_begin_number shape (memory a) r;
        writes = λ v.
            plan_number a (write v) g.area g.sound
            ∙ ap (λ j. number_of (write_begins j (memory a) v)) g.its_shape
            ∙ write_begin_number shape (memory a) v;
        steps = λ p.
            plan_number a (step p) g.area g.sound
            ∙ ap (λ j. number_of (Steps.process_step j (memory a) p)) g.its_shape
            ∙ step_number shape (memory a) (guarded g) (whole g) p;
      }

  -- a read under way
  early_on : (r : ℕ) → r < n → memory a (phase r) ≢ 0 → memory a (phase r) ≢ 5 → h.steps r < 4
  early_on r l busy d =
      let few : memory a (phase r) ≤ 4 = omega (arith, ((whole g).desk r l).phases) in
      omega (arith, few_early (g.bounded.reader r l) busy few)

  bound_where : (r : ℕ) → r < n → memory a (phase r) ≡ 5
      → Where first (h.began r) h.moves
      (row (memory a (size (memory a (last r)))) (λ j. memory a (contents (memory a (last r)) j)))
      (memory a (slot_write_number (memory a (last r)))) h.writes
  bound_where r l e = (g.told.reader r l).bound (omega arith)

  its_number : (r : ℕ) → r < n → memory a (phase r) ≡ 5
      → memory a (desk_write_number r) ≤ length h.writes
  its_number r l e = omega (arith, ((g.told.reader r l).copied e).1, (bound_where r l e).number)

  its_length : (r : ℕ) → r < n → memory a (phase r) ≡ 5
      → memory a (len r) ≡ length (record_of first h.writes (memory a (desk_write_number r)))
  its_length r l e =
      let (len_is, number_is, part, copied) = (g.told.reader r l).copied e in
      len_is
      ∙ sym (row_length (memory a (size (memory a (last r)))) (λ j. memory a (contents (memory a (last r)) j)))
      ∙ ap length (where_numbered (bound_where r l e))
      ∙ ap (λ k. length (record_of first h.writes k)) (sym number_is)

  reading_on : (r : ℕ) → r < n → memory a (phase r) ≡ 5 → h.steps r < memory a (len r) + 4
  reading_on r l e = omega (arith, few_late (g.bounded.reader r l) e, ((g.told.reader r l).copied e).2)

  -- a write under way
  abbrev k : ℕ
  k = memory a writer_phase

  looking_on : k ≢ 0 → h.looks ≤ n + 2
  looking_on busy = go (ℕ_discrete k 1)
    where
      go : Dec (k ≡ 1) → h.looks ≤ n + 2
      go (yes e) = omega (arith, g.bounded.writer.scanned e, (guarded g).scan_within e)
      go (no d) = g.bounded.writer.few (omega arith)

  length_on : k ≢ 0 → memory a writer_len ≡ length h.given
  length_on busy = (g.told.writer.has (omega arith)).0

  writing_on : k ≢ 0 → h.steps n < n + length h.given + 7
  writing_on busy = subst (λ j. h.steps n < n + j + 7) (length_on busy) few_steps
    where
      go : Dec (k ≡ 1) → Dec (k ≡ 2) → Dec (k ≡ 7) → h.steps n < n + memory a writer_len + 7
      go (yes e) b d = omega (arith, g.bounded.writer.scanned e, (guarded g).scan_within e)
      go (no x) (yes e) d =
          omega (arith, g.bounded.writer.copying e, g.bounded.writer.few (omega arith), (whole g).writer.part)
      go (no x) (no y) (yes e) = omega (arith, g.bounded.writer.told e, g.bounded.writer.few (omega arith))
      go (no x) (no y) (no z) =
          let hi : k ≤ 6 = omega (arith, (whole g).writer.phases) in
          omega (arith, g.bounded.writer.rest (omega arith) hi, g.bounded.writer.few (omega arith))

      few_steps : h.steps n < n + memory a writer_len + 7
      few_steps = go (ℕ_discrete k 1) (ℕ_discrete k 2) (ℕ_discrete k 7)

pub it_ends : Ends
it_ends u =
    let g = run_ends_good u in (
      goes g,
      record {
        looks = looking_on g;
        write_length = length_on g;
        writes = writing_on g;
        early_reads = early_on g;
        read_number = its_number g;
        read_length = its_length g;
        reads = reading_on g;
      },
    )
