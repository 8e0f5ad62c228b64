-- Where each place stands in an area: one table of parts gives every offset, width, address and the total.
-- Assumes nothing.
use Rattle.std.specs.Prelude.{Bool, cond, ◌&&◌, List, [], ◌∷◌, ◌≢◌, ℕ, zero, suc, ◌+◌, ◌*◌, ltb, length, get_or, set}
use Rattle.theory.specs.Lists.{Each}
use Rattle.theory.specs.Place.{Place, Memory, Store}

-- An area is made of parts, one behind another; a part of rows; a row of fields; a field of words, also of none. Of
-- each part: its rows, and how many words each field of a row has, field by field.
pub record Table : Type 0 where
  pub parts : ℕ
  pub rows : ℕ → ℕ
  pub fields : ℕ → List ℕ

-- where field f of a row stands, if its first stands at i
abbrev pub field_at : ℕ → List ℕ → ℕ → ℕ
field_at i l zero = i
field_at i [] (suc f) = i
field_at i (w ∷ l) (suc f) = field_at (i + w) l f

module _ (t : Table) where
  -- the words of field f of part g; a field that a row lacks has none
  abbrev pub words : ℕ → ℕ → ℕ
  words g f = get_or (t.fields g) f 0

  -- where it stands in a row
  abbrev pub offset : ℕ → ℕ → ℕ
  offset g f = field_at 0 (t.fields g) f

  -- the words in a row of a part
  abbrev pub width : ℕ → ℕ
  width g = offset g (length (t.fields g))

  -- where a part begins
  abbrev pub base : ℕ → ℕ
  base zero = 0
  base (suc g) = base g + t.rows g * width g

  -- the words of the whole area
  abbrev pub total : ℕ
  total = base t.parts

  abbrev pub address : Place → ℕ
  address p = base p.part + (p.row * width p.part + (offset p.part p.field + p.column))

  -- whether an area has such a place
  abbrev pub has : Place → Bool
  has p =
      ltb p.part t.parts && ltb p.row (t.rows p.part) && ltb p.column (words p.part p.field)

  -- the memory that a list of words is; a place that the area lacks holds 0
  abbrev pub view : List ℕ → Memory
  view a p = cond (has p) (get_or a (address p) 0) 0

  -- the words after some stores
  abbrev pub store : List ℕ → List Store → List ℕ
  store a [] = a
  store a (s ∷ l) = store (set a (address s.place) s.value) l

-- no store of the list is to the word at i
abbrev pub Untouched : Table → ℕ → List Store → Type 0
Untouched t i = Each (λ s. address t s.place ≢ i)
