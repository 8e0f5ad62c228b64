-- The steps of readers and writer: the stores of each, named once, and the plan that picks them. Assumes nothing.
use Rattle.std.specs.Prelude.{Bool, true, false, cond, ◌&&◌, not, List, [], ◌∷◌, ◌++◌, length, get_or}
use Rattle.std.specs.Prelude.{ℕ, suc, ◌*◌, eqb, ltb, leb}
use Rattle.theory.specs.Place.{Record, Memory, Store, ◌≔◌, copied}
use Rattle.register.specs.Area.{current, index, counter, r_start, r_end, size, slot_write_number, contents}
use Rattle.register.specs.Area.{phase, last, pos, len, desk_write_number, finished, read_record, writer_phase}
use Rattle.register.specs.Area.{last_slot, in_hand, writer_pos, writer_len, old_word, writes_ended}
use Rattle.register.specs.Area.{write_record, most_writes}
use Rattle.register.specs.Shape.{Shape, limit}

-- what a call on an undamaged area does: it refuses by a number, or it makes stores and says if an operation ended
pub data Plan : Type 0 where
  refuse : ℕ → Plan
  accept : List Store → Bool → Plan

-- a refusal of a call: its number, and the test that must pass for the call to go on
pub record Refusal : Type 0 where
  pub test : Bool
  pub number : ℕ

abbrev pub ◌else◌ : Bool → ℕ → Refusal
b else k = record { test = b; number = k }

infix 68 ◌else◌
-- the first test that fails refuses by its number; where all pass it is x
abbrev pub unless : {A : Type 0} → (ℕ → A) → List Refusal → A → A
unless refuses [] x = x
unless refuses (r ∷ l) x = cond r.test (unless refuses l x) (refuses r.number)

-- the plan for a phase, from a list of one for each; on an undamaged area no phase is past the list
abbrev pub at_phase : ℕ → List Plan → Plan
at_phase p plans = get_or plans p (refuse 2)

-- ---- the stores of reader r

abbrev pub sets_phase : ℕ → ℕ → List Store
sets_phase r p = phase r ≔ p ∷ []

-- 1 (R1): look at current's index. Equal to last: phase 4, otherwise phase 2
abbrev pub compares : Memory → ℕ → List Store
compares m r = sets_phase r (cond (eqb (index (m current)) (m (last r))) 4 2)

-- 2 (R3): add 1 to r_end of slot last
abbrev pub unbinds : Memory → ℕ → List Store
unbinds m r = r_end (m (last r)) ≔ suc (m (r_end (m (last r)))) ∷ phase r ≔ 3 ∷ []

-- 3 (R4, R5): add 1 to current; last becomes its index
abbrev pub binds : Memory → ℕ → List Store
binds m r = current ≔ suc (m current) ∷ last r ≔ index (suc (m current)) ∷ phase r ≔ 4 ∷ []

-- 4: take size and write number of slot last; pos 0. Size 0: the read ends, otherwise phase 5
abbrev pub takes : Memory → ℕ → List Store
takes m r =
    len r ≔ m (size (m (last r)))
    ∷ desk_write_number r ≔ m (slot_write_number (m (last r))) ∷ pos r ≔ 0 ∷ []

-- 5: copy the word at pos from slot last; add 1 to pos. At len the read ends
abbrev pub copies : Memory → ℕ → List Store
copies m r =
    read_record r (m (pos r)) ≔ m (contents (m (last r)) (m (pos r))) ∷ pos r ≔ suc (m (pos r)) ∷ []

-- ending sets finished to 1, phase to 0
abbrev pub finishes : ℕ → List Store
finishes r = finished r ≔ 1 ∷ phase r ≔ 0 ∷ []

-- ---- the stores of the writer

-- a begin: len, slot in hand 0, pos 0, phase 1
abbrev pub sets_out : Record → List Store
sets_out v = writer_len ≔ length v ∷ in_hand ≔ 0 ∷ writer_pos ≔ 0 ∷ writer_phase ≔ 1 ∷ []

-- behind the record, which is copied into the desk; words past len stay
abbrev pub begins_write : Record → List Store
begins_write v = copied write_record 0 v ++ sets_out v

-- 1 (W1): the slot in hand is free if it is not last slot and its r_start equals its r_end
abbrev pub free : Memory → Bool
free m = not (eqb (m in_hand) (m last_slot)) && eqb (m (r_start (m in_hand))) (m (r_end (m in_hand)))

-- free: phase 2, or 3 when len is 0
abbrev pub picks : Memory → List Store
picks m = writer_phase ≔ cond (eqb (m writer_len) 0) 3 2 ∷ []

-- not free: next slot, phase 1
abbrev pub passes : Memory → List Store
passes m = in_hand ≔ suc (m in_hand) ∷ []

-- 2: copy the word at pos from the desk to the same place in the slot's contents; add 1 to pos. At len phase 3
abbrev pub fills : Memory → List Store
fills m =
    contents (m in_hand) (m writer_pos) ≔ m (write_record (m writer_pos)) ∷ writer_pos ≔ suc (m writer_pos)
    ∷ writer_phase ≔ cond (eqb (suc (m writer_pos)) (m writer_len)) 3 2 ∷ []

-- 3: write number becomes writes ended + 1, size becomes len; in one step, so their order is free
abbrev pub sizes : Memory → List Store
sizes m =
    slot_write_number (m in_hand) ≔ suc (m writes_ended)
    ∷ size (m in_hand) ≔ m writer_len ∷ writer_phase ≔ 4 ∷ []

-- 4: r_start becomes 0
abbrev pub clears_start : Memory → List Store
clears_start m = r_start (m in_hand) ≔ 0 ∷ writer_phase ≔ 5 ∷ []

-- 5: r_end becomes 0
abbrev pub clears_end : Memory → List Store
clears_end m = r_end (m in_hand) ≔ 0 ∷ writer_phase ≔ 6 ∷ []

-- 6 (W2): old word becomes current, current becomes slot × 2^32. This publishes
abbrev pub publishes : Memory → List Store
publishes m = old_word ≔ m current ∷ current ≔ m in_hand * 4294967296 ∷ writer_phase ≔ 7 ∷ []

-- 7 (W3): r_start of the old word's index becomes the old word's counter; last slot becomes the slot; writes ended
-- grows by 1; the write ends
abbrev pub freezes : Memory → List Store
freezes m =
    r_start (index (m old_word)) ≔ counter (m old_word) ∷ last_slot ≔ m in_hand
    ∷ writes_ended ≔ suc (m writes_ended) ∷ writer_phase ≔ 0 ∷ []

-- ---- the plans, on an area of a shape

module _ (k : Shape) (m : Memory) where
  -- a begin of reader r
  abbrev pub read_begins : ℕ → Plan
  read_begins r =
      unless refuse (ltb r k.n else 3 ∷ eqb (m (phase r)) 0 else 5 ∷ []) (accept (sets_phase r 1) false)

  -- a begin of the writer with a record. A word holds no more than 2^64 − 1, so that writes ended "is" 2^64 − 1
  -- where it is not below it
  abbrev pub write_begins : Record → Plan
  write_begins v =
      unless refuse
      (leb (length v) k.c else 4
      ∷ eqb (m writer_phase) 0 else 5
      ∷ ltb (m writes_ended) most_writes else 7
      ∷ [])
      (accept (begins_write v) false)

  -- reader r in phase 1 to 5
  abbrev pub reader_1 : ℕ → Plan
  reader_1 r = accept (compares m r) false

  abbrev pub reader_2 : ℕ → Plan
  reader_2 r = unless refuse (ltb (m (r_end (m (last r)))) (limit k) else 2 ∷ []) (accept (unbinds m r) false)

  abbrev pub reader_3 : ℕ → Plan
  reader_3 r = unless refuse (ltb (counter (m current)) (limit k) else 2 ∷ []) (accept (binds m r) false)

  abbrev pub reader_4 : ℕ → Plan
  reader_4 r =
      cond (eqb (m (size (m (last r)))) 0) (accept (takes m r ++ finishes r) true)
      (accept (takes m r ++ sets_phase r 5) false)

  abbrev pub reader_5 : ℕ → Plan
  reader_5 r =
      cond (eqb (suc (m (pos r))) (m (len r))) (accept (copies m r ++ finishes r) true) (accept (copies m r) false)

  -- one step of reader r
  unfoldable pub reader_step : ℕ → Plan
  reader_step r =
      at_phase (m (phase r))
      (refuse 6 ∷ reader_1 r ∷ reader_2 r ∷ reader_3 r ∷ reader_4 r ∷ reader_5 r ∷ [])

  -- the writer in phase 1
  abbrev pub looks : Plan
  looks =
      cond (free m) (accept (picks m) false) (cond (eqb (m in_hand) (suc k.n)) (refuse 8) (accept (passes m) false))

  -- one step of the writer
  unfoldable pub writer_step : Plan
  writer_step =
      at_phase (m writer_phase)
      (refuse 6
      ∷ looks
      ∷ accept (fills m) false
      ∷ accept (sizes m) false
      ∷ accept (clears_start m) false
      ∷ accept (clears_end m) false
      ∷ accept (publishes m) false
      ∷ accept (freezes m) true
      ∷ [])

  -- processes 0 to N − 1 are the readers, process N is the writer
  abbrev pub process_step : ℕ → Plan
  process_step p = cond (ltb p k.n) (reader_step p) (cond (eqb p k.n) writer_step (refuse 3))

-- ---- moves

-- a begin of a read by a reader, a begin of a write with a record, one step of a process
pub data Move : Type 0 where
  read : ℕ → Move
  write : Record → Move
  step : ℕ → Move

-- the process that moves
abbrev pub mover : Shape → Move → ℕ
mover k (read r) = r
mover k (write v) = k.n
mover k (step p) = p

abbrev pub plan : Shape → Memory → Move → Plan
plan k m (read r) = read_begins k m r
plan k m (write v) = write_begins k m v
plan k m (step p) = process_step k m p

-- whether areas of a shape have a call; those of every known form have all
abbrev pub has_call : Shape → Move → Bool
has_call k (read r) = true
has_call k (write v) = true
has_call k (step p) = true
