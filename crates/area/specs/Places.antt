-- The places of the code as those of `register`, and which of them an area has. Assumes nothing.
use Rattle.std.specs.Prelude.{ℕ, ◌+◌, ◌<◌}
use Rattle.theory.specs.Place as theory
use Rattle.register.specs.Area.{current, slot_field, contents, desk_field, read_record, writer_field, write_record}
use Rattle.area.specs.declared.Layout.{Layout}
use Rattle.area.specs.declared.places.Place.{Place}
use Rattle.area.specs.declared.places.Place.TheVariants as places
use Rattle.area.specs.declared.places.Row.{Row}
use Rattle.area.specs.declared.places.Row.TheVariants as rows

-- the place of `register` by that name
abbrev pub as_place : Place → theory.Place
as_place places.Current = current
as_place (places.SlotField f s) = slot_field f s
as_place (places.Contents s j) = contents s j
as_place (places.DeskField f r) = desk_field f r
as_place (places.ReadRecord r j) = read_record r j
as_place (places.WriterField f) = writer_field f
as_place (places.WriteRecord j) = write_record j

-- it is one that an area of a layout has
abbrev pub Within : Layout → Place → Type 0
Within p places.Current = Unit {0}
Within p (places.SlotField f s) = (f < 4) × (s < p.n + 2)
Within p (places.Contents s j) = (s < p.n + 2) × (j < p.c)
Within p (places.DeskField f r) = (f < 6) × (r < p.n)
Within p (places.ReadRecord r j) = (r < p.n) × (j < p.c)
Within p (places.WriterField f) = f < 7
Within p (places.WriteRecord j) = j < p.c

-- ---- rows

-- place j of a row
abbrev pub place_in : Row → ℕ → Place
place_in (rows.Contents s) j = places.Contents s j
place_in rows.WriteRecord j = places.WriteRecord j

abbrev pub as_row : Row → ℕ → theory.Place
as_row r j = as_place (place_in r j)

-- it is one that an area of a layout has
abbrev pub RowWithin : Layout → Row → Type 0
RowWithin p (rows.Contents s) = s < p.n + 2
RowWithin p rows.WriteRecord = Unit {0}
