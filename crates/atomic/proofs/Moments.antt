-- What an accepted move tells of itself, by the tests of `specs/Complete`, and the event that the history sees of it.
-- Assumes nothing.
use mathlib.Core.Path.{◌≡◌, refl, sym, ap, subst, ◌∙◌}
use mathlib.Core.Bool.{Bool, true, false, cond}
use mathlib.Core.List.{List}
use Prim.Native.Nat.{ℕ, ◌≤◌, ◌<◌}
use native.Mathlib.Decide.{ℕ_discrete}
use native.Mathlib.Omega.{arith}
use lib.Dec.{eqb}
use borrow.Author.Tests.{eq-eqb, ne_eqb, lt-ltb, le-ltb}
use Rattle.theory.specs.Place.{Record, Memory, apply}
use Rattle.register.specs.Area.{shape_of, phase, writer_phase, readers, memory}
use Rattle.register.specs.Steps.{refuse, Move, read, write, step}
use Rattle.register.specs.Calls.{stepped}
use Rattle.theory.specs.History.{Deed, read_began, write_began, went_on, looked, published, read_ended, write_ended}
use Rattle.theory.specs.History.{Event}
use Rattle.atomic.specs.Seen.{got, reader_deed, writer_deed, event}
use Rattle.atomic.specs.Complete.{ends_read, leaves_phase, ends_write}
use Rattle.theory.proofs.Tests.{if_less, if_equal, if_true}
use Rattle.atomic.proofs.Moves.{Does, by}
use Rattle.register.proofs.Facts.{number_of, its_plan}
use Rattle.atomic.proofs.Called.{Opened, does}
use Rattle.atomic.proofs.Observed.{Says, says, observed}

module _ (a : List ℕ) where
  -- the tests of a step of process p
  pub record Tested (p : ℕ) (reads looks publishes ends : Bool) : Type 0 where
    pub reads_end : ends_read a (step p) ≡ reads
    pub looking : leaves_phase 1 a (step p) ≡ looks
    pub publishing : leaves_phase 6 a (step p) ≡ publishes
    pub writes_end : ends_write a (step p) ≡ ends

  -- an accepted move, and the event that the history sees
  pub data Tells : Move → Event → Type 0 where
    a_read_begin : (r : ℕ) → r < readers a → Tells (read r) (by r read_began)
    a_write_begin : (v : Record) → Tells (write v) (by (readers a) (write_began v))
    another_step : (p k : ℕ) → Tested p false false false false → Tells (step p) (by p (went_on k))
    a_look : (p : ℕ) → p ≡ readers a → Tested p false true false false → Tells (step p) (by p looked)
    a_publication : (p : ℕ) → p ≡ readers a → Tested p false false true false
        → Tells (step p) (by p (published false))
    a_read_end : (p : ℕ) → Tested p true false false false
        → Tells (step p) (by p (read_ended (got p (stepped a p))))
    a_write_end : (p : ℕ) → p ≡ readers a → memory a writer_phase ≡ 7 → Tested p false false false true
        → Tells (step p) (by p write_ended)

  -- an accepted step is a reader's or the writer's
  reader_or_writer : (p : ℕ) → Opened a (step p) → readers a ≤ p → p ≡ readers a
  reader_or_writer p o l = go (ℕ_discrete p (readers a))
    where
      go : Dec (p ≡ readers a) → p ≡ readers a
      go (yes e) = e
      go (no d) =
          let k : ◌≡◌ {A = ℕ} 3 0 = ap number_of (sym refused ∙ o.chosen) in
          absurd (omega arith)
        where
          refused : its_plan a (step p) ≡ refuse 3
          refused = rw (le-ltb p (readers a) l, ne_eqb p (readers a) d)

  abbrev its_phase : ℕ
  its_phase = memory a writer_phase

  module _ (p : ℕ) where
    -- a step of a reader
    by_reader : p < readers a → Tells (step p) (by p (reader_deed p (memory a (phase p)) (stepped a p)))
    by_reader l = go (stepped a p).ended refl
      where
        not_writer : eqb p (readers a) ≡ false
        not_writer = ne_eqb p (readers a) (λ e. omega arith)

        tested : (e : Bool) → (stepped a p).ended ≡ e → Tested p e false false false
        tested e same =
            record {
              reads_end = rw (lt-ltb p (readers a) l) same;
              looking = rw not_writer;
              publishing = rw not_writer;
              writes_end = rw not_writer;
            }

        go : (e : Bool) → (stepped a p).ended ≡ e
            → Tells (step p) (by p (cond e (read_ended (got p (stepped a p))) (went_on (memory a (phase p)))))
        go true e = a_read_end p (tested true e)
        go false e = another_step p (memory a (phase p)) (tested false e)

    -- a step of the writer, of which the relation of moves says what it says
    abbrev Told : Memory → Deed → Type 0
    Told m' d = Says (readers a) p d (memory a) m' → Tells (step p) (by p d)

    by_writer : (m' : Memory) → p ≡ readers a → Told m' (writer_deed its_phase (stepped a p))
    by_writer m' w =
        if_equal (Told m') its_phase 6 _ _
        (λ s quiet.
        let not_1 = ne_eqb its_phase 1 (λ z. omega arith) in
        subst (λ b. Tells (step p) (by p (published b))) (sym quiet)
        (a_publication p w (tested false true false not_1 (eq-eqb its_phase 6 s) quiet)))
        (λ s.
        if_true (Told m') (stepped a p).ended write_ended _
        (λ e last.
        let not_1 = ne_eqb its_phase 1 (λ z. omega arith) in
        a_write_end p w last (tested false false true not_1 (ne_eqb its_phase 6 s) e))
        (λ e.
        if_equal (Told m') its_phase 1 looked (went_on its_phase)
        (λ t x. a_look p w (tested true false false (eq-eqb its_phase 1 t) (ne_eqb its_phase 6 s) e))
        (λ t x. another_step p its_phase (tested false false false (ne_eqb its_phase 1 t) (ne_eqb its_phase 6 s) e))))
      where
        tested : (l s e : Bool) → eqb its_phase 1 ≡ l → eqb its_phase 6 ≡ s → (stepped a p).ended ≡ e
            → Tested p false l s e
        tested l s e el es ee =
            record {
              reads_end = rw (le-ltb p (readers a) (omega arith));
              looking = rw (eq-eqb p (readers a) w) el;
              publishing = rw (eq-eqb p (readers a) w) es;
              writes_end = rw (eq-eqb p (readers a) w) ee;
            }

  pub tells : (x : Move) → Opened a x → Tells x (event a x)
  tells (read r) o = a_read_begin r (says (does o).0)
  tells (write v) o = a_write_begin v
  tells (step p) o =
      if_less (Told p m') p (readers a) (reader_deed p (memory a (phase p)) (stepped a p))
      (writer_deed its_phase (stepped a p)) (λ l said. by_reader p l)
      (λ l. by_writer p m' (reader_or_writer p o l))
      (says (subst (λ e. Does (shape_of a) (memory a) e m') (sym (observed a (step p) o)) (does o).0))
    where
      m' : Memory
      m' = apply (memory a) o.stores
