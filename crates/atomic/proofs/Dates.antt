-- When writes were published and ended, and the age of each finished read.
--     Ends                                all writes have ended, but the newest in phase 7
--     AgedRead                            a finished read with its age as the history has it
--     published_now                       writes published, as the writer's desk has it, is how many have been
--     Dated, keeps_dates                  all of it, and that every accepted move keeps it
-- Assumes nothing.
use mathlib.Core.Path.{◌≡◌, refl, sym, ap, ◌∙◌}
use mathlib.Core.Logic.{◌≢◌}
use mathlib.Core.Bool.{true, false, cond}
use mathlib.Core.List.{List, [], ◌∷◌}
use Prim.Native.Nat.{ℕ, suc, ◌+◌, ◌-◌, ◌<◌}
use native.Mathlib.Decide.{ℕ_discrete}
use native.Mathlib.Omega.{arith}
use lib.Dec.{eqb}
use borrow.Author.Tests.{eq-eqb, ne_eqb}
use Rattle.theory.specs.Place.{Record, Memory}
use Rattle.register.specs.Shape.{Shape}
use Rattle.register.specs.Area.{writer_phase}
use Rattle.theory.specs.History.{Deed, Event, Read, Write, History, closed, noted, the_read, the_write}
use Rattle.theory.specs.Lists.{Each, none, also}
use Rattle.atomic.specs.Demands.{later_published}
use Rattle.atomic.proofs.Counts.{all_later, not_counted, closed_counted}
use Rattle.theory.proofs.Tests.{each_follows}
use Rattle.theory.proofs.Noted.{beside, writes_kept, begins_read, goes_on, ends_read, begins_write, looks_on}
use Rattle.theory.proofs.Noted.{writes_on, publishes_it, ends_write}
use Rattle.atomic.proofs.Moves.{Does, by_reader, by_writer}
use Rattle.atomic.proofs.Frames.{reader_leaves, ReaderSeen, reader_seen, WriterGoes, WriterSeen, writer_seen}
use Rattle.theory.proofs.Copying.{Writing}
use Rattle.atomic.proofs.Told.{Told}

-- all writes have ended, but the newest while the writer is in phase 7
pub data Ends (total now phase : ℕ) : List Write → Type 0 where
  all_ended : {writes : List Write} → phase ≢ 7 → Each (λ w. w.end < now) writes → Ends total now phase writes
  one_open : {w : Write} {writes : List Write} → phase ≡ 7 → w.end ≡ total → Each (λ w. w.end < now) writes
      → Ends total now phase (w ∷ writes)

-- a read that ended before now, with its age as the history has it
pub record AgedRead (now : ℕ) (writes : List Write) (x : Read) : Type 0 where
  pub past : x.end < now
  pub own : x.gets.own ≡ true
  pub age : x.gets.age ≡ later_published x.gets.number x.end writes

-- ---- how many have been published

-- writes published, as the writer's desk has it
published_now : {k phase len pos ended size number : ℕ} {given : Record} {mine words : ℕ → ℕ}
    → Writing 7 given k phase len pos ended mine size number words → ended + cond (eqb phase 7) 1 0 ≡ k
published_now {k = k} {phase = phase} {ended = ended} v = go (ℕ_discrete phase 7)
  where
    go : Dec (phase ≡ 7) → ended + cond (eqb phase 7) 1 0 ≡ k
    go (yes e) = rw (eq-eqb phase 7 e) (omega (arith, v.published e))
    go (no d) = rw (ne_eqb phase 7 d) (omega (arith, v.counted d))

-- the end of a write moves no publication
times_closed : (t now steps : ℕ) (writes : List Write) → Each (λ w. w.publication < t) writes
    → Each (λ w. w.publication < t) (closed now steps writes)
times_closed t now steps [] none = none
times_closed t now steps (w ∷ writes) (also b rest) = also b rest

-- ---- one move later

past_later : (now : ℕ) (writes : List Write) → Each (λ w. w.end < now) writes
    → Each (λ w. w.end < suc now) writes
past_later now writes = each_follows (λ w b. omega arith)

ends_later : {total now phase : ℕ} {writes : List Write} → Ends total now phase writes
    → Ends total (suc now) phase writes
ends_later {now = now} {writes = writes} (all_ended d past) = all_ended d (past_later now writes past)
ends_later {now = now} (one_open {writes = writes} e still past) = one_open e still (past_later now writes past)

all_past : {total now phase : ℕ} {writes : List Write} → phase ≢ 7 → Ends total now phase writes
    → Each (λ w. w.end < suc now) writes
all_past {now = now} {writes = writes} d (all_ended x past) = past_later now writes past
all_past d (one_open e still past) = absurd (d e)

-- a write that is published later changes no age
ages_kept : (now : ℕ) (writes writes' : List Write) (reads : List Read)
    → ((k t : ℕ) → t < now → later_published k t writes' ≡ later_published k t writes)
    → Each (AgedRead now writes) reads
    → Each (AgedRead (suc now) writes') reads
ages_kept now writes writes' reads same = each_follows one
  where
    one : (x : Read) → AgedRead now writes x → AgedRead (suc now) writes' x
    one x b =
        record {
          past = omega (arith, b.past);
          own = b.own;
          age = b.age ∙ sym (same x.gets.number x.end b.past);
        }

-- ---- every accepted move

pub record Dated (total : ℕ) (m : Memory) (h : History) : Type 0 where
  pub ends : Ends total h.moves (m writer_phase) h.writes
  pub times : Each (λ w. w.publication < h.moves) h.writes
  pub ages : Each (AgedRead h.moves h.writes) h.reads

module _ (shape : Shape) (first : Record) (total : ℕ) {m : Memory} {h : History} (w : Told shape.n first m h)
    (v : Dated total m h)
    (t : h.moves < total) where
  abbrev n : ℕ
  n = shape.n

  times_on : Each (λ w. w.publication < suc h.moves) h.writes
  times_on = each_follows (λ w b. omega arith) v.times

  same_ages : Each (AgedRead (suc h.moves) h.writes) h.reads
  same_ages = ages_kept h.moves h.writes h.writes h.reads (λ k j l. refl) v.ages

  -- the finished reads after a move of a reader
  reader_ages : {m' : Memory} {d : Deed} (r : ℕ) → ReaderSeen m m' r d
      → Each (AgedRead (suc h.moves) h.writes) (noted total h r d).reads
  reader_ages r (begins_read x) = same_ages
  reader_ages r (goes_on x) = same_ages
  reader_ages r (ends_read {g = g} x) =
      let age = x.age ∙ ap (λ k. k - g.number) (published_now w.writer)
      ∙ sym (all_later g.number h.moves h.writes v.times) in
      also {x = the_read total h r g} (record { past = omega arith; own = x.own; age = age }) same_ages

  -- a move of the writer that publishes nothing and ends nothing
  writer_on : {m' : Memory} (h' : History) → h'.moves ≡ suc h.moves → h'.writes ≡ h.writes
      → h'.reads ≡ h.reads → WriterGoes m m' → Dated total m' h'
  writer_on h' em ew er x =
      record {
        ends = rw (em, ew) (all_ended x.untold (all_past (λ z. omega (arith, x.before)) v.ends));
        times = rw (em, ew) times_on;
        ages = rw (em, ew, er) same_ages;
      }

  closing : {now : ℕ} {writes : List Write} (k : ℕ) → m writer_phase ≡ 7
      → Ends total now (m writer_phase) writes
      → Ends total (suc now) 0 (closed now k writes)
  closing k e (all_ended d past) = absurd (d e)
  closing {now = now} k e (one_open {writes = writes} e' still past) =
      let past' : now < suc now = omega arith in
      all_ended (λ z. omega arith) (also past' (past_later now writes past))

  writer_dates : {m' : Memory} {d : Deed} → WriterSeen m m' d → Dated total m' (noted total h n d)
  writer_dates (begins_write x) = writer_on _ refl refl refl x
  writer_dates (looks_on x) = writer_on _ refl refl refl x
  writer_dates (writes_on x) = writer_on _ refl refl refl x
  writer_dates (publishes_it x) =
      let w' = the_write total h n false in
      record {
        ends = one_open x.after refl (all_past (λ z. omega (arith, x.before)) v.ends);
        times = also {x = w'} (omega arith) times_on;
        ages = ages_kept h.moves h.writes (w' ∷ h.writes) h.reads
            (λ k j l. not_counted k j w' h.writes (omega arith)) v.ages;
      }
  writer_dates (ends_write x) =
      let steps = suc (h.steps n) in
      record {
        ends = rw x.after (closing steps x.before v.ends);
        times = times_closed (suc h.moves) h.moves steps h.writes times_on;
        ages = ages_kept h.moves h.writes (closed h.moves steps h.writes) h.reads
            (λ k j l. closed_counted k j h.moves steps h.writes) v.ages;
      }

  pub keeps_dates : {m' : Memory} {e : Event} → Does shape m e m'
      → Dated total m' (noted total h e.who e.what)
  keeps_dates (by_reader {r = r} {d = d} l x) =
      let b = beside total h r d in
      let k = writes_kept total h r (reader_seen x) in
      record {
        ends = rw (b.moves, k.writes, (reader_leaves x).writer 0 0) (ends_later v.ends);
        times = rw (b.moves, k.writes) times_on;
        ages = rw (b.moves, k.writes) (reader_ages r (reader_seen x));
      }
  keeps_dates (by_writer x) = writer_dates (writer_seen x)
