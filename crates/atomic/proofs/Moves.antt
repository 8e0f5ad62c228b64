-- The accepted moves as relations on memories, one constructor for each way through the steps: the moves of a reader,
-- the moves of the writer, and both together. Assumes nothing.
use mathlib.Core.Path.{◌≡◌}
use mathlib.Core.Logic.{◌≢◌}
use mathlib.Core.Bool.{true, false, cond}
use mathlib.Core.List.{List, [], ◌∷◌, ◌++◌}
use Prim.Native.Nat.{ℕ, suc, ◌-◌, ◌≤◌, ◌<◌}
use lib.Dec.{eqb, ltb}
use lib.ListN.{length, get_or}
use Rattle.theory.specs.Place.{Record, Memory, Store, ◌≔◌, apply}
use Rattle.register.specs.Area.{current, index, counter, r_start, r_end, size, slot_write_number, contents}
use Rattle.register.specs.Area.{most_writes, phase, last, pos, len, desk_write_number, read_record, writer_phase}
use Rattle.register.specs.Area.{last_slot, in_hand, writer_pos, writer_len, writes_ended, write_record}
use Rattle.register.specs.Shape.{Shape, limit}
use Rattle.register.specs.Steps.{sets_phase, unbinds, binds, takes, copies, finishes, passes, sizes, clears_start}
use Rattle.register.specs.Steps.{sets_out, clears_end, publishes, freezes}
use Rattle.register.specs.Calls.{published_writes}
use Rattle.theory.specs.History.{Got, Deed, Event, read_began, write_began, went_on, looked, published, read_ended}
use Rattle.theory.specs.History.{write_ended}
use Rattle.theory.proofs.Places.{row}

abbrev pub by : ℕ → Deed → Event
by p d = record { who = p; what = d }

-- the memory with a record copied into the writer's desk
abbrev pub desk_with : Memory → Record → Memory
desk_with m v p =
    cond (eqb p.part 3)
    (cond (eqb p.field 7)
    (cond (eqb p.row 0) (cond (ltb p.column (length v)) (get_or v p.column 0) (m p)) (m p)) (m p))
    (m p)

-- the writer in a phase
abbrev pub to_phase : ℕ → List Store
to_phase k = writer_phase ≔ k ∷ []

-- one word filled in, and the phase after it
abbrev pub fills_to : Memory → ℕ → List Store
fills_to m k =
    contents (m in_hand) (m writer_pos) ≔ m (write_record (m writer_pos)) ∷ writer_pos ≔ suc (m writer_pos)
    ∷ to_phase k

-- the record in reader r's desk
abbrev pub desk_record : Memory → ℕ → Record
desk_record m r = row (m (len r)) (λ i. m (read_record r i))

-- what a read gets that ends now with a write number and a record
abbrev pub got_now : Memory → ℕ → Record → Got
got_now m k v = record { age = published_writes m - k; number = k; own = true; shows = v }

-- the moves of reader r
pub data ReaderDoes (shape : Shape) (m : Memory) (r : ℕ) : Deed → Memory → Type 0 where
  read_starts : m (phase r) ≡ 0 → ReaderDoes shape m r read_began (apply m (sets_phase r 1))
  finds_same : m (phase r) ≡ 1 → index (m current) ≡ m (last r)
      → ReaderDoes shape m r (went_on 1) (apply m (sets_phase r 4))
  finds_other : m (phase r) ≡ 1 → index (m current) ≢ m (last r)
      → ReaderDoes shape m r (went_on 1) (apply m (sets_phase r 2))
  leaves_slot : m (phase r) ≡ 2 → m (r_end (m (last r))) < limit shape
      → ReaderDoes shape m r (went_on 2) (apply m (unbinds m r))
  joins_slot : m (phase r) ≡ 3 → counter (m current) < limit shape
      → ReaderDoes shape m r (went_on 3) (apply m (binds m r))
  takes_none : m (phase r) ≡ 4 → m (size (m (last r))) ≡ 0
      → ReaderDoes shape m r (read_ended (got_now m (m (slot_write_number (m (last r)))) []))
      (apply m (takes m r ++ finishes r))
  takes_size : m (phase r) ≡ 4 → m (size (m (last r))) ≢ 0
      → ReaderDoes shape m r (went_on 4) (apply m (takes m r ++ sets_phase r 5))
  copies_word : m (phase r) ≡ 5 → suc (m (pos r)) ≢ m (len r)
      → ReaderDoes shape m r (went_on 5) (apply m (copies m r))
  copies_last : m (phase r) ≡ 5 → suc (m (pos r)) ≡ m (len r)
      → ReaderDoes shape m r
      (read_ended (got_now m (m (desk_write_number r)) (desk_record (apply m (copies m r)) r)))
      (apply m (copies m r ++ finishes r))

-- the moves of the writer
pub data WriterDoes (shape : Shape) (m : Memory) : Deed → Memory → Type 0 where
  write_starts : (v : Record) → length v ≤ shape.c → m writer_phase ≡ 0 → m writes_ended < most_writes
      → WriterDoes shape m (write_began v) (apply (desk_with m v) (sets_out v))
  picks_empty : m writer_phase ≡ 1 → m in_hand ≢ m last_slot → m (r_start (m in_hand)) ≡ m (r_end (m in_hand))
      → m writer_len ≡ 0
      → WriterDoes shape m looked (apply m (to_phase 3))
  picks_slot : m writer_phase ≡ 1 → m in_hand ≢ m last_slot → m (r_start (m in_hand)) ≡ m (r_end (m in_hand))
      → m writer_len ≢ 0
      → WriterDoes shape m looked (apply m (to_phase 2))
  passes_slot : m writer_phase ≡ 1
      → (m in_hand ≢ m last_slot → m (r_start (m in_hand)) ≢ m (r_end (m in_hand)))
      → m in_hand ≢ suc shape.n
      → WriterDoes shape m looked (apply m (passes m))
  fills_word : m writer_phase ≡ 2 → suc (m writer_pos) ≢ m writer_len
      → WriterDoes shape m (went_on 2) (apply m (fills_to m 2))
  fills_last : m writer_phase ≡ 2 → suc (m writer_pos) ≡ m writer_len
      → WriterDoes shape m (went_on 2) (apply m (fills_to m 3))
  sets_size : m writer_phase ≡ 3 → WriterDoes shape m (went_on 3) (apply m (sizes m))
  clears_first : m writer_phase ≡ 4 → WriterDoes shape m (went_on 4) (apply m (clears_start m))
  clears_second : m writer_phase ≡ 5 → WriterDoes shape m (went_on 5) (apply m (clears_end m))
  exchanges : m writer_phase ≡ 6 → WriterDoes shape m (published false) (apply m (publishes m))
  write_ends : m writer_phase ≡ 7 → WriterDoes shape m write_ended (apply m (freezes m))

-- an accepted move is a reader's or the writer's
pub data Does (shape : Shape) (m : Memory) : Event → Memory → Type 0 where
  by_reader : {r : ℕ} {d : Deed} {m' : Memory} → r < shape.n → ReaderDoes shape m r d m'
      → Does shape m (by r d) m'
  by_writer : {d : Deed} {m' : Memory} → WriterDoes shape m d m' → Does shape m (by shape.n d) m'
