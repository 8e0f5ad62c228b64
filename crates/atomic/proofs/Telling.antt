-- What the memory holds and what the run has told: the slots that matter hold whole writes, and each finished read is
-- placed.
--     holds_kept, reads_kept, writes_kept_by   what is left alone still holds
--     reader_own, writer_own              a reader's move as it is to the reader, the writer's as it is to the writer
--     tells                               every accepted move keeps `Told`
-- Assumes nothing.
use mathlib.Core.Path.{◌≡◌, refl, sym, ap, transport, ◌∙◌}
use mathlib.Core.Logic.{◌≢◌}
use mathlib.Core.Bool.{cond}
use mathlib.Core.List.{List}
use Prim.Native.Nat.{ℕ, suc, ◌≤◌, ◌<◌}
use native.Mathlib.Omega.{arith}
use lib.Dec.{ltb}
use lib.ListN.{length, get_or}
use borrow.Author.Tests.{lt-ltb}
use Rattle.theory.specs.Place.{Record, Place, Memory, apply}
use Rattle.register.specs.Shape.{Shape}
use Rattle.register.specs.Area.{current, index, size, slot_write_number, contents, phase, last, pos, len}
use Rattle.register.specs.Area.{desk_write_number, read_record, writer_phase, in_hand, writer_pos, write_record}
use Rattle.theory.specs.History.{Deed, Event, Write, History, noted}
use Rattle.theory.proofs.Tests.{eqb_same, at_each}
use Rattle.theory.proofs.Places.{row, row_same, row_record}
use Rattle.theory.proofs.Placed.{sound_noted, began_noted, Needs, newest, length_closed, newest_closed}
use Rattle.theory.proofs.Copying.{Reading, reading_later, not_yet, from_sizing, bound_to_newest, copy_starts}
use Rattle.theory.proofs.Copying.{no_words, copy_goes_on, copy_ends, Writing, write_begins, slot_found, words_there}
use Rattle.theory.proofs.Copying.{slot_passed, fill_goes_on, fill_ends, published_whole, publishes_it, ends_it}
use Rattle.theory.proofs.Noted
use Rattle.theory.proofs.Noted.{beside, WritesKept, writes_kept, needs_none, reading_noted, begins_write, looks_on}
use Rattle.theory.proofs.Noted.{writes_on, ends_write}
use Rattle.atomic.proofs.Moves
use Rattle.atomic.proofs.Moves.{ReaderDoes, WriterDoes, Does, by_reader, by_writer, to_phase}
use Rattle.atomic.proofs.Frames.{desk_word, RecordKept, ReaderLeaves, reader_leaves, reader_seen}
use Rattle.atomic.proofs.Frames.{WriterLeaves, writer_leaves, WriterSeen, writer_seen}
use Rattle.atomic.proofs.Guarded.{Guarded}
use Rattle.atomic.proofs.Told.{Holds, Reads, Writes, Told}

high : 4 < 7
high = omega arith

-- a record copied into the desk is what the desk then has
desk_holds : (u : Record) (f : ℕ → ℕ) → row (length u) (λ j. cond (ltb j (length u)) (get_or u j 0) (f j)) ≡ u
desk_holds u f =
    row_same (length u) (λ j. cond (ltb j (length u)) (get_or u j 0) (f j)) (λ j. get_or u j 0)
    (λ j l. rw (lt-ltb j (length u) l)) ∙ row_record u

module _ (shape : Shape) (first : Record) (big : shape.n < 4294967296) (total : ℕ) {m : Memory} {h : History}
    (g : Guarded shape m) (v : Told shape.n first m h) (t : h.moves < total) where
  abbrev n : ℕ
  n = shape.n

  -- a slot whose record is left alone by a move holds what it held
  holds_kept : {m' : Memory} {s : ℕ} {u : Record} {k : ℕ} → RecordKept m m' s → Holds m s u k
      → Holds m' s u k
  holds_kept {m'} {s} {u} {k} f = transport (sym same)
    where
      same : Holds m' s u k ≡ Holds m s u k
      same = λ i. (row (f.length i) (λ j. f.words j i) ≡ u) × (f.number i ≡ k)

  -- a reader whose desk and whose slot's record are left alone by a move has what it had
  reads_kept : {m' : Memory} {begin now : ℕ} {writes : List Write} (q : ℕ)
      → ((f j : ℕ) → m' (desk_word f q j) ≡ m (desk_word f q j)) → RecordKept m m' (m (last q))
      → Reads n first m begin now writes q → Reads n first m' begin now writes q
  reads_kept {m'} {begin} {now} {writes} q same k = transport (sym alike)
    where
      its : (p : ℕ → Place) (x : ℕ) → m' (p (m (last q))) ≡ x → m' (p (m' (last q))) ≡ x
      its p x e = ap (λ s. m' (p s)) (same 1 0) ∙ e

      alike : Reads n first m' begin now writes q ≡ Reads n first m begin now writes q
      alike = λ i.
          Reading 4 first begin now writes (same 0 0 i) (same 3 0 i) (same 2 0 i) (same 4 0 i) (λ j. same 6 j i)
          (its size (m (size (m (last q)))) k.length i)
          (its slot_write_number (m (slot_write_number (m (last q)))) k.number i)
          (λ j. its (λ s. contents s j) (m (contents (m (last q)) j)) (k.words j) i)

  -- ---- a reader

  -- what reader r is bound to once it finds, or binds, the current slot
  newly_bound : (r : ℕ)
      → Reading 4 first (h.began r) (suc h.moves) h.writes 4 (m (len r)) (m (pos r))
      (m (desk_write_number r))
      (λ j. m (read_record r j)) (m (size (index (m current)))) (m (slot_write_number (index (m current))))
      (λ j. m (contents (index (m current)) j))
  newly_bound r =
      bound_to_newest h (h.began r) (m (len r)) (m (pos r)) (m (desk_write_number r)) (m (size (index (m current))))
      (m (slot_write_number (index (m current)))) (λ j. m (read_record r j))
      (λ j. m (contents (index (m current)) j))
      v.newest_one.0 v.newest_one.1 v.sound

  module _ {r : ℕ} (l : r < n) where
    -- what its move needs, and what it has after it
    reader_own : {d : Deed} {m' : Memory} → ReaderDoes shape m r d m'
        → Needs first h r d
        × Reads n first m' ((noted total h r d).began r) (noted total h r d).moves (noted total h r d).writes r
    reader_own (Moves.read_starts e) = (tt, rw (eqb_same r) (not_yet 1 (omega arith)))
    reader_own (Moves.finds_same e x) = (tt, rw (eqb_same r) (rw (← x) (newly_bound r)))
    reader_own (Moves.finds_other e x) = (tt, rw (eqb_same r) (not_yet 2 (omega arith)))
    reader_own (Moves.leaves_slot e x) = (tt, rw (eqb_same r) (not_yet 3 (omega arith)))
    reader_own (Moves.joins_slot e x) =
        let same : index (suc (m current)) ≡ index (m current) = omega arith in
        (tt, rw (eqb_same r, same) (newly_bound r))
    reader_own (Moves.takes_none e x) = (no_words (v.reader r l) e x, rw (eqb_same r) (not_yet 0 (omega arith)))
    reader_own (Moves.takes_size e x) = (tt, rw (eqb_same r) (copy_starts (v.reader r l) e x))
    reader_own (Moves.copies_word e x) = (tt, rw (eqb_same r) (copy_goes_on (v.reader r l) e x))
    reader_own (Moves.copies_last e x) = (
      rw (eqb_same r) (copy_ends (v.reader r l) e x),
      rw (eqb_same r) (not_yet 0 (omega arith)),
    )

  -- the writer's words, after a move of a reader
  writes_kept_by : {r : ℕ} {m' : Memory} (h' : History) → ReaderLeaves shape m m' r → WritesKept h h'
      → Writes n first m' h'
  writes_kept_by {m' = m'} h' f k = transport (sym same) v.writer
    where
      same : Writes n first m' h' ≡ Writes n first m h
      same = λ i.
          Writing 7 (k.given i) (length (k.writes i)) (f.writer 0 0 i) (f.writer 4 0 i) (f.writer 3 0 i)
          (f.writer 6 0 i) (λ j. f.writer 7 j i) ((f.held (f.writer 2 0 i)).length i)
          ((f.held (f.writer 2 0 i)).number i) (λ j. (f.held (f.writer 2 0 i)).words j i)

  -- ---- the writer

  -- steps 4 and 5 leave size, number and words as they are
  cleared_on : (k : ℕ) → 4 ≤ m writer_phase → m writer_phase < 7 → 4 ≤ k → k < 7
      → Writes n first (apply m (to_phase k)) h
  cleared_on k lo hi lo' hi' =
      words_there v.writer high k (m writer_pos) (λ j. m (contents (m in_hand) j)) (omega arith) (omega arith)
      (omega arith)
      (omega arith) (v.writer.filled (omega arith) (omega arith))
      (λ z. v.writer.sized (omega arith) (omega arith))

  writer_own : {d : Deed} {m' : Memory} → WriterDoes shape m d m'
      → Writes n first m' (noted total h n d)
  writer_own (Moves.write_starts u l e more) =
      write_begins v.writer high u (λ j. cond (ltb j (length u)) (get_or u j 0) (m (write_record j))) e
      (desk_holds u (λ j. m (write_record j)))
  writer_own (Moves.picks_empty e d x y) =
      words_there v.writer high 3 (m writer_pos) (λ j. m (contents (m in_hand) j)) (omega arith) (omega arith)
      (omega arith) (omega arith) (λ j l. absurd (omega arith)) (λ z. absurd (omega arith))
  writer_own (Moves.picks_slot e d x y) = slot_found v.writer high e y
  writer_own (Moves.passes_slot e d x) = slot_passed v.writer high e
  writer_own (Moves.fills_word e x) = rw (eqb_same (m in_hand)) (fill_goes_on v.writer high e x)
  writer_own (Moves.fills_last e x) = rw (eqb_same (m in_hand)) (fill_ends v.writer high e x)
  writer_own (Moves.sets_size e) =
      rw (eqb_same (m in_hand))
      (words_there v.writer high 4 (m writer_pos) (λ j. m (contents (m in_hand) j)) (omega arith) (omega arith)
      (omega arith) (omega arith) (v.writer.filled (omega arith) (omega arith)) (λ z. (refl, refl)))
  writer_own (Moves.clears_first e) = cleared_on 5 (omega arith) (omega arith) (omega arith) (omega arith)
  writer_own (Moves.clears_second e) = cleared_on 6 (omega arith) (omega arith) (omega arith) (omega arith)
  writer_own (Moves.exchanges e) = publishes_it v.writer high (omega arith)
  writer_own (Moves.write_ends e) =
      rw (length_closed h.moves (suc (h.steps n)) h.writes) (ends_it v.writer high e)

  -- the current slot: the one that it was, or the one in hand that is published
  module _ {m' : Memory} (f : WriterLeaves m m') where
    same_current : m writer_phase ≢ 6
        → Holds m' (index (m' current)) (newest first h.writes) (length h.writes)
    same_current d = rw (f.word d) (holds_kept (f.held (index (m current)) g.hand_apart) v.newest_one)

    newest_then : {d : Deed} → WriterSeen m m' d
        → Holds m' (index (m' current)) (newest first (noted total h n d).writes)
        (length (noted total h n d).writes)
    newest_then (begins_write x) = same_current (λ e. omega (arith, x.before))
    newest_then (looks_on x) = same_current (λ e. omega (arith, x.before))
    newest_then (writes_on x) = same_current (λ e. omega (arith, x.before))
    newest_then (Noted.publishes_it x) =
        let e = x.before in
        rw x.slot
        (holds_kept (f.held (m in_hand) (λ lo hi. absurd (omega arith)))
        (published_whole v.writer high (omega arith)))
    newest_then (ends_write x) =
        let k = suc (h.steps n) in
        rw (newest_closed first h.moves k h.writes, length_closed h.moves k h.writes)
        (same_current (λ e. omega (arith, x.before)))

  -- every accepted move
  pub tells : {e : Event} {m' : Memory} → Does shape m e m'
      → Told n first m' (noted total h e.who e.what)
  tells {m' = m'} (by_reader {r = r} {d = d} l x) =
      let (needs, own) = reader_own l x in
      let f = reader_leaves x in
      let b = beside total h r d in
      let k = writes_kept total h r (reader_seen x) in
      record {
        sound = sound_noted first total h r d (v.began r) t needs v.sound;
        began = began_noted total h r d v.began;
        newest_one = rw (f.slot big, k.writes) (holds_kept (f.held (index (m current))) v.newest_one);
        reader = at_each
            (λ q.
            Reads n first m' ((noted total h r d).began q) (noted total h r d).moves (noted total h r d).writes q)
            r own
            (λ q i other.
            rw (b.began q other, b.moves, k.writes)
            (reads_kept q (λ f' j. f.desk f' q j other) (f.held (m (last q))) (reading_later (v.reader q i))));
        writer = writes_kept_by (noted total h r d) f k;
      }
  tells (by_writer {d = d} x) =
      let f = writer_leaves x in
      let b = beside total h n d in
      let s = writer_seen x in
      record {
        sound = sound_noted first total h n d (v.began n) t (needs_none total h n first s) v.sound;
        began = began_noted total h n d v.began;
        newest_one = newest_then f s;
        reader = λ q i.
            rw (b.began q (λ z. omega arith), b.moves)
            (from_sizing
            (λ y.
            let far : 4 ≤ m (phase q) = omega (arith, f.desk 0 q 0) in
            reads_kept q (λ f' j. f.desk f' q j) (f.held (m (last q)) (g.unheld q i far))
            (reading_noted total h n (v.began q) s (reading_later (v.reader q i)))));
        writer = writer_own x;
      }
