-- What the place of a record means. Assumes nothing.
use Rattle.std.specs.Prelude.{◌≡◌, List, ℕ, ◌+◌, ◌-◌, ◌≤◌, length, take, drop}
use Rattle.std.specs.Prelude.{Some, None, is_some}
use Rattle.std.specs.declared.ops.Range.{Range}
use Rattle.theory.specs.Place.{Record}
use Rattle.register.specs.Calls.{is_own, shown}
use Rattle.place.specs.Places.{record_range, nowhere, place_of}

-- the range of a reader's record in any words, against what showing hands back for any default
pub record RangesAreShown (a : List ℕ) (reader : ℕ) : Type 0 where
  -- a range: the record is its words
  pub there : (w : Range ℕ) → record_range a reader ≡ Some w → (default : Record)
      → shown a reader default ≡ take (w.end - w.start) (drop w.start a)
  -- and never outside what was lent
  pub within : (w : Range ℕ) → record_range a reader ≡ Some w → (w.start ≤ w.end) × (w.end ≤ length a)
  -- none: the default
  pub default : record_range a reader ≡ None → (default : Record) → shown a reader default ≡ default
  -- there is one exactly where the record is the reader's
  pub own : is_some (record_range a reader) ≡ is_own a reader

-- the place of a reader's record in any words, against what showing hands back for any default
pub record PlacesAreShown (a : List ℕ) (reader : ℕ) : Type 0 where
  -- yes is 1: the record is the len words from at on
  pub there : (place_of a reader).yes ≡ 1 → (default : Record)
      → shown a reader default ≡ take (place_of a reader).len (drop (place_of a reader).at a)
  -- and never outside what was lent
  pub within : (place_of a reader).yes ≡ 1 → (place_of a reader).at + (place_of a reader).len ≤ length a
  -- yes is 0: the default, and a place that says nothing
  pub default : (place_of a reader).yes ≡ 0 → (default : Record) → shown a reader default ≡ default
  pub nothing : (place_of a reader).yes ≡ 0 → place_of a reader ≡ nowhere
  -- there is no third value
  pub either : (place_of a reader).yes ≤ 1
