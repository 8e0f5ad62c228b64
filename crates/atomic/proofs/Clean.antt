-- Form 1 only: nobody has gone from the current slot, and nobody is about to, so that the counter stays within N.
--     Clean, stays_clean                  this, and that every accepted move keeps it
--     guards                              with the counts, the record of facts that all above rests on
-- Assumes nothing.
use mathlib.Core.Path.{◌≡◌, sym}
use mathlib.Core.Logic.{◌≢◌}
use Prim.Native.Nat.{ℕ, ◌<◌}
use native.Mathlib.Omega.{arith}
use Rattle.theory.specs.Place.{Memory}
use Rattle.register.specs.Shape.{Shape}
use Rattle.register.specs.Area.{current, index, r_end, phase, last, writer_phase, in_hand}
use Rattle.theory.specs.History.{Deed, Event}
use Rattle.register.specs.Conditions.{Whole}
use Rattle.theory.proofs.Tests.{not_differ_and_same, eqb_same, at_each}
use Rattle.theory.proofs.Noted.{begins_write, looks_on, writes_on, publishes_it, ends_write}
use Rattle.atomic.proofs.Moves
use Rattle.atomic.proofs.Moves.{ReaderDoes, Does, by_reader, by_writer}
use Rattle.atomic.proofs.Frames.{reader_leaves, WriterLeaves, writer_leaves, WriterSeen, writer_seen}
use Rattle.atomic.proofs.Counting.{Counted}
use Rattle.atomic.proofs.Balance.{hand_alone}
use Rattle.atomic.proofs.Held.{hand_apart, unheld, scan_within, more_slots, end_room, counter_room}
use Rattle.atomic.proofs.Guarded.{Guarded}

-- a reader that is about to leave is not bound to the current slot
abbrev pub Turned : Memory → ℕ → Type 0
Turned m r = m (phase r) ≡ 2 → m (last r) ≢ index (m current)

pub record Clean (n : ℕ) (m : Memory) : Type 0 where
  pub nobody : m (r_end (index (m current))) ≡ 0
  pub turned : (r : ℕ) → r < n → Turned m r

module _ (shape : Shape) (big : shape.n < 4294967296) {m : Memory} (i : Counted shape m) (v : Clean shape.n m) where
  abbrev n : ℕ
  n = shape.n

  -- a reader that goes to a phase other than 2, and one that goes to phase 2
  reader_turned : {r : ℕ} {d : Deed} {m' : Memory} → ReaderDoes shape m r d m' → Turned m' r
  reader_turned {r} (Moves.read_starts e) = rw (eqb_same r) (λ y. absurd (omega arith))
  reader_turned {r} (Moves.finds_same e x) = rw (eqb_same r) (λ y. absurd (omega arith))
  reader_turned {r} (Moves.finds_other e x) = rw (eqb_same r) (λ y z. x (sym z))
  reader_turned {r} (Moves.leaves_slot e x) = rw (eqb_same r) (λ y. absurd (omega arith))
  reader_turned {r} (Moves.joins_slot e x) = rw (eqb_same r) (λ y. absurd (omega arith))
  reader_turned {r} (Moves.takes_none e x) = rw (eqb_same r) (λ y. absurd (omega arith))
  reader_turned {r} (Moves.takes_size e x) = rw (eqb_same r) (λ y. absurd (omega arith))
  reader_turned (Moves.copies_word e x) = λ y. absurd (omega arith)
  reader_turned {r} (Moves.copies_last e x) = rw (eqb_same r) (λ y. absurd (omega arith))

  -- the writer publishes nothing
  not_published : {m' : Memory} → WriterLeaves m m' → m writer_phase ≢ 6 → Clean n m'
  not_published f d =
      record {
        nobody = rw (f.word d, f.end (index (m current)) (hand_apart shape m i)) v.nobody;
        turned = λ q k. rw (f.desk 0 q 0, f.desk 1 q 0, f.word d) (v.turned q k);
      }

  writer_clean : {d : Deed} {m' : Memory} → WriterLeaves m m' → WriterSeen m m' d → Clean n m'
  writer_clean f (begins_write x) = not_published f (λ e. omega (arith, x.before))
  writer_clean f (looks_on x) = not_published f (λ e. omega (arith, x.before))
  writer_clean f (writes_on x) = not_published f (λ e. omega (arith, x.before))
  writer_clean f (publishes_it x) =
      let e = x.before in
      record {
        nobody = rw (x.slot, f.end (m in_hand) (λ lo hi. absurd (omega arith)))
            ((hand_alone i.counts (omega arith) (omega arith)).5 (omega arith));
        turned = λ q k. rw (f.desk 0 q 0, f.desk 1 q 0, x.slot)
            (λ y. unheld shape m i (omega arith) (omega arith) q k (λ z. omega arith));
      }
  writer_clean f (ends_write x) = not_published f (λ e. omega (arith, x.before))

  pub stays_clean : {m' : Memory} {e : Event} → Does shape m e m' → Clean n m'
  stays_clean {m' = m'} (by_reader {r = r} l x) =
      let f = reader_leaves x in
      record {
        nobody = rw (f.slot big, f.end (index (m current)) (λ e y. v.turned r l e (sym y))) v.nobody;
        turned = at_each (Turned m') r (reader_turned x)
            (λ q k d. rw (f.desk 0 q 0 d, f.desk 1 q 0 d, f.slot big) (v.turned q k));
      }
  stays_clean (by_writer x) = writer_clean (writer_leaves x) (writer_seen x)

-- clean counts on an undamaged memory are all that is needed above them
pub guards : {shape : Shape} {m : Memory} → Counted shape m → Clean shape.n m → Whole shape m
    → Guarded shape m
guards {shape} {m} i v whole =
    record {
      hand_apart = hand_apart shape m i;
      unheld = λ r l y lo hi. unheld shape m i lo (omega arith) r l (λ z. omega arith);
      scan_within = scan_within shape m i;
      more_slots = λ e taken. more_slots shape m i e (not_differ_and_same _ _ _ _ taken);
      end_room = λ r l e.
          end_room shape m i r l e (v.turned r l e) (whole.slot (m (last r)) (whole.desk r l).slot).start
          whole.writer.before.count;
      counter_room = λ r l e. counter_room shape m i v.nobody r l e;
    }
