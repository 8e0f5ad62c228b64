-- Computed from the definitions: the history of a list of events, and the addresses of a small table.
--     history_of_events                   every kind of deed, by two readers and the writer
--     addresses                           rows of three fields, of which one has no word
-- Assumes nothing.
use mathlib.Core.Path.{◌≡◌, refl}
use mathlib.Core.Bool.{true, false}
use mathlib.Core.List.{List, [], ◌∷◌, map}
use Prim.Native.Nat.{ℕ, zero, suc}
use Rattle.theory.specs.Place.{Place}
use Rattle.theory.specs.Table.{Table, total, address, has}
use Rattle.theory.specs.History.{Got, Deed, Event, read_began, write_began, went_on, looked, published}
use Rattle.theory.specs.History.{read_ended, write_ended, Read, Write, History, all_noted, nothing_yet}

-- ---- a history

abbrev by : ℕ → Deed → Event
by p d = record { who = p; what = d }

abbrev got_0 : Got
got_0 = record { age = 1; number = 0; own = true; shows = 9 ∷ [] }

abbrev got_1 : Got
got_1 = record { age = 0; number = 1; own = true; shows = 5 ∷ [] }

-- readers 0 and 1, and the writer, which is process 2: its first write ends behind its publication, its second with it,
-- its third does not end
abbrev events : List Event
events =
    by 0 read_began ∷ by 2 (write_began (5 ∷ [])) ∷ by 2 looked ∷ by 2 (went_on 2) ∷ by 2 (published false)
    ∷ by 1 read_began ∷ by 0 (went_on 1) ∷ by 0 (read_ended got_0) ∷ by 2 write_ended
    ∷ by 1 (read_ended got_1)
    ∷ by 2 (write_began (6 ∷ [])) ∷ by 2 looked ∷ by 2 looked ∷ by 2 (published true)
    ∷ by 2 (write_began (7 ∷ [])) ∷ by 2 (published false) ∷ []

abbrev told : History
told = all_noted 16 nothing_yet events

abbrev read_of : ℕ → ℕ → ℕ → ℕ → Got → Read
read_of reader begin end steps gets =
    record { reader = reader; begin = begin; end = end; steps = steps; gets = gets }

abbrev write_of : ℕ → ℕ → ℕ → ℕ → ℕ → List ℕ → Write
write_of begin publication end steps looks gives =
    record { begin = begin; publication = publication; end = end; steps = steps; looks = looks; gives = gives }

history_of_events : (told.reads ≡ read_of 1 5 9 1 got_1 ∷ read_of 0 0 7 2 got_0 ∷ [])
    × (told.writes
    ≡ write_of 14 15 16 1 0 (7 ∷ []) ∷ write_of 10 13 13 3 2 (6 ∷ []) ∷ write_of 1 4 8 4 1 (5 ∷ []) ∷ [])
    × (told.moves ∷ map told.began (0 ∷ 1 ∷ 2 ∷ []) ≡ 16 ∷ 0 ∷ 5 ∷ 14 ∷ [])
    × (told.looks ∷ map told.steps (0 ∷ 1 ∷ 2 ∷ []) ≡ 0 ∷ 2 ∷ 1 ∷ 1 ∷ [])
    × (told.given ≡ 7 ∷ [])
history_of_events = (refl, refl, refl, refl, refl)

-- ---- a table

-- a row of one word, and two rows of a word, of no word and of two words
abbrev rows : ℕ → ℕ
rows zero = 1
rows (suc g) = 2

abbrev fields : ℕ → List ℕ
fields zero = 1 ∷ []
fields (suc g) = 1 ∷ 0 ∷ 2 ∷ []

abbrev small : Table
small = record { parts = 2; rows = rows; fields = fields }

abbrev at : ℕ → ℕ → ℕ → ℕ → Place
at part row field column = record { part = part; field = field; row = row; column = column }

-- in the order of addresses; then places that the area lacks: a word of the field of none, a column, a field, a row
-- and a part too many
addresses : (total small ≡ 7)
    × (map (address small)
    (at 0 0 0 0 ∷ at 1 0 0 0 ∷ at 1 0 2 0 ∷ at 1 0 2 1 ∷ at 1 1 0 0 ∷ at 1 1 2 1 ∷ [])
    ≡ 0 ∷ 1 ∷ 2 ∷ 3 ∷ 4 ∷ 6 ∷ [])
    × (map (has small)
    (at 1 1 2 1 ∷ at 1 0 1 0 ∷ at 1 0 2 2 ∷ at 1 0 3 0 ∷ at 1 2 0 0 ∷ at 2 0 0 0 ∷ [])
    ≡ true ∷ false ∷ false ∷ false ∷ false ∷ false ∷ [])
addresses = (refl, refl, refl)
