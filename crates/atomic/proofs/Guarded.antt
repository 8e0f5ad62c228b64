-- What all that is told of slots and readers rests on, as one record of facts. It says nothing of how it is known that
-- a slot is held: a register whose slots are held in another way shows such a record in its own way, and shares all
-- that is above it. Its last two facts are of r_end and of the current word's counter; only never being refused rests
-- on them. Assumes nothing.
use mathlib.Core.Path.{◌≡◌}
use mathlib.Core.Logic.{◌≢◌}
use mathlib.Core.Bool.{false}
use Prim.Native.Nat.{ℕ, suc, ◌+◌, ◌≤◌, ◌<◌}
use Rattle.theory.specs.Place.{Memory}
use Rattle.register.specs.Area.{current, index, counter, r_end, phase, last, writer_phase, in_hand}
use Rattle.register.specs.Shape.{Shape, limit}
use Rattle.register.specs.Steps.{free}
use Rattle.atomic.proofs.Frames.{Unfilled}

pub record Guarded (shape : Shape) (m : Memory) : Type 0 where
  -- the slot that the writer fills is not the current one, nor one that a reader takes size or words from
  pub hand_apart : Unfilled m (index (m current))
  pub unheld : (r : ℕ) → r < shape.n → 4 ≤ m (phase r) → Unfilled m (m (last r))
  -- a look is at one of the slots, and at the last one it finds it free
  pub scan_within : m writer_phase ≡ 1 → m in_hand < shape.n + 2
  pub more_slots : m writer_phase ≡ 1 → free m ≡ false → m in_hand ≢ suc shape.n
  -- reader steps 2 and 3 find room
  pub end_room : (r : ℕ) → r < shape.n → m (phase r) ≡ 2 → m (r_end (m (last r))) < limit shape
  pub counter_room : (r : ℕ) → r < shape.n → m (phase r) ≡ 3 → counter (m current) < limit shape
