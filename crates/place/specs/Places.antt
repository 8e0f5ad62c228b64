-- Where a reader's record stands in any words. Assumes nothing.
use Rattle.std.specs.Prelude.{Bool, cond, List, [], ◌∷◌, ℕ, ◌+◌, ◌-◌, eqb, ltb, Option, Some, None}
use Rattle.std.specs.declared.ops.Range.{Range}
use Rattle.theory.specs.Place.{Memory}
use Rattle.theory.specs.Table.{address}
use Rattle.register.specs.Shape.{table}
use Rattle.register.specs.Area.{shape_of, memory, phase, len, finished, read_record}
use Rattle.register.specs.Calls.{is_own}
use Rattle.place.specs.declared.RecordPlace.{RecordPlace}

-- what is asked of a reader once the area is undamaged: it exists, is idle and has finished
abbrev pub rest_tests : ℕ → Memory → ℕ → List Bool
rest_tests n m r = ltb r n ∷ eqb (m (phase r)) 0 ∷ eqb (m (finished r)) 1 ∷ []

-- the word at which the record that a reader keeps begins
abbrev pub record_at : List ℕ → ℕ → ℕ
record_at a r = address (table (shape_of a)) (read_record r 0)

-- the len words from there on, where the record is the reader's
unfoldable pub record_range : List ℕ → ℕ → Option (Range ℕ)
record_range a r =
    cond (is_own a r) (Some (record { start = record_at a r; end = record_at a r + memory a (len r) })) None

-- the reader has no record to show
abbrev pub nowhere : RecordPlace
nowhere = record { yes = 0; at = 0; len = 0 }

-- the len words from index at on, where the record is the reader's
unfoldable pub place_of : List ℕ → ℕ → RecordPlace
place_of a r = cond (is_own a r) (record { yes = 1; at = record_at a r; len = memory a (len r) }) nowhere

-- the range of a record, or none, as a place
abbrev pub told : Option (Range ℕ) → RecordPlace
told (Some w) = record { yes = 1; at = w.start; len = w.end - w.start }
told None = nowhere
