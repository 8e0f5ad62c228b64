-- The area: its places by their names, what an area is, when it is undamaged. Assumes nothing.
use Rattle.std.specs.Prelude.{Bool, ◌&&◌, ◌||◌, not, List, [], ◌∷◌, ℕ, ◌+◌, ◌/◌, ◌%◌, eqb, leb, ltb, length, get_or}
use Rattle.theory.specs.Lists.{all, every}
use Rattle.theory.specs.Place.{Place, Memory}
use Rattle.theory.specs.Table.{total, view}
use Rattle.register.specs.Shape.{Shape, shape, known_form, table, slots_at, desks_at, writer_at, in_range}
use Rattle.register.specs.Shape.{limit}

-- ---- the header

abbrev pub header : ℕ → Place
header i = record { part = 0; field = i; row = 0; column = 0 }

-- the current word: slot index × 2^32 + readers' counter. The old word is one like it
abbrev pub current : Place
current = header 7

abbrev pub index : ℕ → ℕ
index w = w / 4294967296

abbrev pub counter : ℕ → ℕ
counter w = w % 4294967296

-- ---- slot s

abbrev pub slot_field : ℕ → ℕ → Place
slot_field f s = record { part = 1; field = f; row = s; column = 0 }

abbrev pub r_start : ℕ → Place
r_start s = slot_field 0 s

abbrev pub r_end : ℕ → Place
r_end s = slot_field 1 s

abbrev pub size : ℕ → Place
size s = slot_field 2 s

abbrev pub slot_write_number : ℕ → Place
slot_write_number s = slot_field 3 s

abbrev pub contents : ℕ → ℕ → Place
contents s i = record { part = 1; field = 4; row = s; column = i }

-- ---- the desk of reader r

abbrev pub desk_field : ℕ → ℕ → Place
desk_field f r = record { part = 2; field = f; row = r; column = 0 }

abbrev pub phase : ℕ → Place
phase r = desk_field 0 r

abbrev pub last : ℕ → Place
last r = desk_field 1 r

abbrev pub pos : ℕ → Place
pos r = desk_field 2 r

abbrev pub len : ℕ → Place
len r = desk_field 3 r

abbrev pub desk_write_number : ℕ → Place
desk_write_number r = desk_field 4 r

abbrev pub finished : ℕ → Place
finished r = desk_field 5 r

abbrev pub read_record : ℕ → ℕ → Place
read_record r i = record { part = 2; field = 6; row = r; column = i }

-- ---- the desk of the writer

abbrev pub writer_field : ℕ → Place
writer_field f = record { part = 3; field = f; row = 0; column = 0 }

abbrev pub writer_phase : Place
writer_phase = writer_field 0

abbrev pub last_slot : Place
last_slot = writer_field 1

abbrev pub in_hand : Place
in_hand = writer_field 2

abbrev pub writer_pos : Place
writer_pos = writer_field 3

abbrev pub writer_len : Place
writer_len = writer_field 4

abbrev pub old_word : Place
old_word = writer_field 5

abbrev pub writes_ended : Place
writes_ended = writer_field 6

abbrev pub write_record : ℕ → Place
write_record i = record { part = 3; field = 7; row = 0; column = i }

-- ---- numbers

-- the most that writes ended may be: 2^64 − 1
abbrev pub most_writes : ℕ
most_writes = 18446744073709551615

-- ---- test 1: an area

-- the shape that words 0, 1 and 2 say
abbrev pub shape_of : List ℕ → Shape
shape_of a = shape (get_or a 0 0) (get_or a 1 0) (get_or a 2 0)

abbrev pub readers : List ℕ → ℕ
readers a = (shape_of a).n

-- eight words or more; words 0 to 6 and the length as the table has them
abbrev pub area_tests : List ℕ → List Bool
area_tests a =
    leb 8 (length a)
    ∷ known_form (get_or a 0 0)
    ∷ in_range (shape_of a)
    ∷ eqb (get_or a 3 0) (total (table (shape_of a)))
    ∷ eqb (get_or a 4 0) (slots_at (shape_of a))
    ∷ eqb (get_or a 5 0) (desks_at (shape_of a))
    ∷ eqb (get_or a 6 0) (writer_at (shape_of a))
    ∷ eqb (length a) (total (table (shape_of a)))
    ∷ []

unfoldable pub is_area : List ℕ → Bool
is_area a = all (area_tests a)

-- ---- test 2: undamaged

module _ (k : Shape) where
  -- the current word, and the old word
  abbrev pub word_sound : ℕ → Bool
  word_sound w = ltb (index w) (k.n + 2) && leb (counter w) (limit k)

  abbrev pub slot_tests : Memory → ℕ → List Bool
  slot_tests m s = leb (m (r_start s)) (limit k) ∷ leb (m (r_end s)) (limit k) ∷ leb (m (size s)) k.c ∷ []

  -- pos is at most len, which is at most C
  abbrev pub desk_tests : Memory → ℕ → List Bool
  desk_tests m r =
      leb (m (phase r)) 5
      ∷ ltb (m (last r)) (k.n + 2)
      ∷ leb (m (pos r)) (m (len r))
      ∷ leb (m (len r)) k.c
      ∷ leb (m (finished r)) 1
      ∷ (not (eqb (m (phase r)) 5) || ltb (m (pos r)) (m (len r)))
      ∷ []

  abbrev pub writer_tests : Memory → List Bool
  writer_tests m =
      leb (m writer_phase) 7
      ∷ ltb (m last_slot) (k.n + 2)
      ∷ ltb (m in_hand) (k.n + 2)
      ∷ leb (m writer_pos) (m writer_len)
      ∷ leb (m writer_len) k.c
      ∷ word_sound (m old_word)
      ∷ (not (eqb (m writer_phase) 2) || ltb (m writer_pos) (m writer_len))
      ∷ (not (eqb (m writer_phase) 1) || eqb (m writer_pos) 0)
      ∷ (eqb (m writer_phase) 0 || ltb (m writes_ended) most_writes)
      ∷ []

  unfoldable pub slot_sound : Memory → ℕ → Bool
  slot_sound m s = all (slot_tests m s)

  unfoldable pub desk_sound : Memory → ℕ → Bool
  desk_sound m r = all (desk_tests m r)

  unfoldable pub writer_sound : Memory → Bool
  writer_sound m = all (writer_tests m)

  -- in the order of addresses
  abbrev pub memory_tests : Memory → List Bool
  memory_tests m =
      word_sound (m current) ∷ every (k.n + 2) 0 (slot_sound m) ∷ every k.n 0 (desk_sound m) ∷ writer_sound m
      ∷ []

abbrev pub memory : List ℕ → Memory
memory a = view (table (shape_of a)) a

unfoldable pub undamaged : List ℕ → Bool
undamaged a = all (memory_tests (shape_of a) (memory a))
