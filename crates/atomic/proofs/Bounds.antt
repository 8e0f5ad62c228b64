-- Own steps and looks: no operation takes more than its bound, whether it has ended or is under way.
--     ReadExact, WriteSteps               the steps of a finished read, of a published write
--     ReaderAt, WriterAt                  the steps of a reader and of the writer under way
--     Bounded, keeps_bounds               all of these, and that every accepted move keeps them
-- Assumes nothing.
use mathlib.Core.Path.{◌≡◌}
use mathlib.Core.Logic.{◌⊎◌, inl, inr}
use mathlib.Core.Bool.{false}
use mathlib.Core.List.{List, [], ◌∷◌}
use Prim.Native.Nat.{ℕ, suc, ◌+◌, ◌≤◌, ◌<◌}
use native.Mathlib.Omega.{arith}
use lib.ListN.{length}
use Rattle.theory.specs.Place.{Record, Memory, apply}
use Rattle.register.specs.Shape.{Shape}
use Rattle.register.specs.Area.{slot_write_number, phase, last, pos, len, desk_write_number, writer_phase, in_hand}
use Rattle.register.specs.Area.{writer_pos, writer_len, read_record}
use Rattle.register.specs.Steps.{copies}
use Rattle.theory.specs.History.{Deed, Event, Read, Write, History, closed, the_read, the_write, noted}
use Rattle.theory.specs.Lists.{Each, none, also}
use Rattle.theory.proofs.Tests.{eqb_same, at_each}
use Rattle.theory.proofs.Places.{row_length}
use Rattle.theory.proofs.Placed.{newest}
use Rattle.theory.proofs.Noted.{beside, writes_kept, reads_kept}
use Rattle.atomic.proofs.Moves
use Rattle.atomic.proofs.Moves.{ReaderDoes, WriterDoes, Does, by_reader, by_writer, got_now, desk_record}
use Rattle.atomic.proofs.Frames.{reader_leaves, reader_seen, writer_leaves, writer_seen}
use Rattle.atomic.proofs.Guarded.{Guarded}
use Rattle.atomic.proofs.Told.{Told}
use Rattle.atomic.proofs.StepCounts.{ReaderSteps, at_rest, first_step, step_on, step_binds, step_sizes}
use Rattle.atomic.proofs.StepCounts.{step_copies, ends_exactly, WriterSteps, look_finds, look_passes}
use Rattle.atomic.proofs.StepCounts.{fill_steps, fill_last, next_step, publish_step, begin_steps, no_steps}

-- ---- the steps of what is told

abbrev pub ReadExact : Read → Type 0
ReadExact x = (x.steps ≡ length x.gets.shows + 2) ⊎ (x.steps ≡ length x.gets.shows + 4)

-- a published write of a run of `all_moves` moves
pub record WriteSteps (n all_moves : ℕ) (w : Write) : Type 0 where
  pub looks : w.looks ≤ n + 2
  pub most : w.steps ≤ n + length w.gives + 7
  pub exact : w.end < all_moves → w.steps ≡ w.looks + length w.gives + 5

abbrev newest_looks : List Write → ℕ
newest_looks [] = 0
newest_looks (w ∷ writes) = w.looks

-- the newest write ends after k steps
steps_closed : (n all_moves t k : ℕ) (first : Record) (writes : List Write)
    → k ≡ newest_looks writes + length (newest first writes) + 5 → Each (WriteSteps n all_moves) writes
    → Each (WriteSteps n all_moves) (closed t k writes)
steps_closed n all_moves t k first [] e none = none
steps_closed n all_moves t k first (w ∷ writes) e (also b rest) =
    let most : k ≤ n + length w.gives + 7 = omega (arith, b.looks) in
    also (record { looks = b.looks; most = most; exact = λ l. e }) rest

-- ---- every accepted move keeps the bounds

module _ (shape : Shape) (first : Record) where
  abbrev n : ℕ
  n = shape.n

  abbrev pub ReaderAt : Memory → History → ℕ → Type 0
  ReaderAt m h r = ReaderSteps (h.steps r) (m (phase r)) (m (pos r))

  abbrev pub WriterAt : Memory → History → Type 0
  WriterAt m h =
      WriterSteps n h.looks (h.steps n) (m writer_phase) (m in_hand) (m writer_len) (m writer_pos)
      (length (newest first h.writes)) (newest_looks h.writes)

  pub record Bounded (all_moves : ℕ) (m : Memory) (h : History) : Type 0 where
    pub reads : Each ReadExact h.reads
    pub writes : Each (WriteSteps n all_moves) h.writes
    pub reader : (r : ℕ) → r < n → ReaderAt m h r
    pub writer : WriterAt m h

  module _ (all_moves : ℕ) {m : Memory} {h : History} (v : Bounded all_moves m h) where
    -- the finished reads and the reader's own steps, after its move
    reader_own : {r : ℕ} {d : Deed} {m' : Memory} → r < n → ReaderDoes shape m r d m'
        → Each ReadExact (noted all_moves h r d).reads × ReaderAt m' (noted all_moves h r d) r
    reader_own {r} l (Moves.read_starts e) = (v.reads, rw (eqb_same r) first_step)
    reader_own {r} l (Moves.finds_same e x) = (v.reads, rw (eqb_same r) (step_binds (v.reader r l) (inl e)))
    reader_own {r} l (Moves.finds_other e x) =
        (v.reads, rw (eqb_same r) (step_on (v.reader r l) 2 (omega arith) (omega arith) (omega arith)))
    reader_own {r} l (Moves.leaves_slot e x) =
        (v.reads, rw (eqb_same r) (step_on (v.reader r l) 3 (omega arith) (omega arith) (omega arith)))
    reader_own {r} l (Moves.joins_slot e x) = (v.reads, rw (eqb_same r) (step_binds (v.reader r l) (inr e)))
    reader_own {r} l (Moves.takes_none e x) = (
      also {x = the_read all_moves h r (got_now m (m (slot_write_number (m (last r)))) [])}
          (ends_exactly (v.reader r l) 0 (omega arith) ((v.reader r l).bound e)) v.reads,
      rw (eqb_same r) at_rest,
    )
    reader_own {r} l (Moves.takes_size e x) = (v.reads, rw (eqb_same r) (step_sizes (v.reader r l) e))
    reader_own {r} l (Moves.copies_word e x) = (v.reads, rw (eqb_same r) (step_copies (v.reader r l) e))
    reader_own {r} l (Moves.copies_last e x) = (
      also {x = the_read all_moves h r (got_now m (m (desk_write_number r)) (desk_record (apply m (copies m r)) r))}
          (rw (row_length (m (len r)) (λ j. apply m (copies m r) (read_record r j)))
          (ends_exactly (v.reader r l) (m (len r)) (omega arith) ((v.reader r l).late e))) v.reads,
      rw (eqb_same r) at_rest,
    )

    -- the published writes and the writer's own steps, after its move
    module _ (g : Guarded shape m) (w : Told n first m h) where
      published_now : m writer_phase ≡ 6 → WriteSteps n all_moves (the_write all_moves h n false)
      published_now e =
          let few = v.writer.few (omega arith) in
          let rest = v.writer.rest (omega arith) (omega arith) in
          let has = (w.writer.has (omega arith)).0 in
          record { looks = few; most = omega arith; exact = λ l. absurd (omega arith) }

      writer_own : {d : Deed} {m' : Memory} → WriterDoes shape m d m'
          → Each (WriteSteps n all_moves) (noted all_moves h n d).writes × WriterAt m' (noted all_moves h n d)
      writer_own (Moves.write_starts u l e more) = (v.writes, rw (eqb_same n) begin_steps)
      writer_own (Moves.picks_empty e d x y) = (
        v.writes,
        rw (eqb_same n)
            (look_finds v.writer 3 e (g.scan_within e) (λ z. absurd (omega arith)) (λ z. y) (omega arith)
            (omega arith)),
      )
      writer_own (Moves.picks_slot e d x y) = (
        v.writes,
        rw (eqb_same n)
            (look_finds v.writer 2 e (g.scan_within e) (λ z. w.writer.unmoved e) (λ z. absurd (omega arith))
            (omega arith) (omega arith)),
      )
      writer_own (Moves.passes_slot e d x) = (v.writes, rw (eqb_same n) (look_passes v.writer e))
      writer_own (Moves.fills_word e x) = (v.writes, rw (eqb_same n) (fill_steps v.writer e))
      writer_own (Moves.fills_last e x) = (v.writes, rw (eqb_same n) (fill_last v.writer e x))
      writer_own (Moves.sets_size e) =
          (v.writes, rw (eqb_same n) (next_step v.writer 4 (omega arith) (omega arith) (omega arith)))
      writer_own (Moves.clears_first e) =
          (v.writes, rw (eqb_same n) (next_step v.writer 5 (omega arith) (omega arith) (omega arith)))
      writer_own (Moves.clears_second e) =
          (v.writes, rw (eqb_same n) (next_step v.writer 6 (omega arith) (omega arith) (omega arith)))
      writer_own (Moves.exchanges e) = (
        also {x = the_write all_moves h n false} (published_now e) v.writes,
        rw (eqb_same n) (publish_step v.writer (length h.given) e (w.writer.has (omega arith)).0),
      )
      writer_own (Moves.write_ends e) = (
        steps_closed n all_moves h.moves (suc (h.steps n)) first h.writes
            (omega (arith, v.writer.told e)) v.writes,
        rw (eqb_same n) no_steps,
      )

      -- every accepted move
      pub keeps_bounds : {m' : Memory} {e : Event} → Does shape m e m'
          → Bounded all_moves m' (noted all_moves h e.who e.what)
      keeps_bounds {m' = m'} (by_reader {r = r} {d = d} l x) =
          let (reads, own) = reader_own l x in
          let f = reader_leaves x in
          let b = beside all_moves h r d in
          let k = writes_kept all_moves h r (reader_seen x) in
          let still = b.steps n (λ z. omega arith) in
          record {
            reads = reads;
            writes = rw k.writes v.writes;
            reader = at_each (ReaderAt m' (noted all_moves h r d)) r own
                (λ q i other.
                rw (b.steps q other, f.desk 0 q 0 other, f.desk 2 q 0 other) (v.reader q i));
            writer =
                rw (k.looks, still, f.writer 0 0, f.writer 2 0, f.writer 4 0, f.writer 3 0, k.writes) v.writer;
          }
      keeps_bounds (by_writer {d = d} x) =
          let (writes, own) = writer_own x in
          let f = writer_leaves x in
          let b = beside all_moves h n d in
          record {
            reads = rw (reads_kept all_moves h n (writer_seen x)) v.reads;
            writes = writes;
            reader = λ q i.
                rw (b.steps q (λ z. omega arith), f.desk 0 q 0, f.desk 2 q 0) (v.reader q i);
            writer = own;
          }
