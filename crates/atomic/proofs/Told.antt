-- What the memory of an area holds and what its run has told, as one invariant: the current slot and every slot that a
-- reader is bound to hold whole writes, the writer's desk and the slot in hand what was given. Assumes nothing.
use mathlib.Core.Path.{◌≡◌}
use mathlib.Core.List.{List}
use Prim.Native.Nat.{ℕ, ◌≤◌, ◌<◌}
use lib.ListN.{length}
use Rattle.theory.specs.Place.{Record, Memory}
use Rattle.register.specs.Area.{current, index, size, slot_write_number, contents, phase, last, pos, len}
use Rattle.register.specs.Area.{desk_write_number, read_record, writer_phase, in_hand, writer_pos, writer_len}
use Rattle.register.specs.Area.{writes_ended, write_record}
use Rattle.theory.specs.History.{Write, History}
use Rattle.theory.proofs.Places.{row}
use Rattle.theory.proofs.Placed.{Sound, newest}
use Rattle.theory.proofs.Copying.{Reading, Writing}

-- slot s holds record v, whole, and its write number
abbrev pub Holds : Memory → ℕ → Record → ℕ → Type 0
Holds m s v number = (row (m (size s)) (λ j. m (contents s j)) ≡ v) × (m (slot_write_number s) ≡ number)

module _ (n : ℕ) (first : Record) where
  -- reader r, whose operation began at `begin`
  abbrev pub Reads : Memory → ℕ → ℕ → List Write → ℕ → Type 0
  Reads m begin now writes r =
      Reading 4 first begin now writes (m (phase r)) (m (len r)) (m (pos r)) (m (desk_write_number r))
      (λ j. m (read_record r j)) (m (size (m (last r)))) (m (slot_write_number (m (last r))))
      (λ j. m (contents (m (last r)) j))

  abbrev pub Writes : Memory → History → Type 0
  Writes m h =
      Writing 7 h.given (length h.writes) (m writer_phase) (m writer_len) (m writer_pos) (m writes_ended)
      (λ j. m (write_record j)) (m (size (m in_hand))) (m (slot_write_number (m in_hand)))
      (λ j. m (contents (m in_hand) j))

  pub record Told (m : Memory) (h : History) : Type 0 where
    pub sound : Sound first h
    pub began : (p : ℕ) → h.began p ≤ h.moves
    -- the current slot holds the newest write
    pub newest_one : Holds m (index (m current)) (newest first h.writes) (length h.writes)
    pub reader : (r : ℕ) → r < n → Reads m (h.began r) h.moves h.writes r
    pub writer : Writes m h
