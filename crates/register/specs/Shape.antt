-- The shape of an area, which is its form, N and C, and what follows from it: the table, and the limits of its numbers.
-- Assumes nothing.
use Rattle.std.specs.Prelude.{Bool, List, [], ◌∷◌, ℕ, zero, suc, ◌+◌, eqb, leb}
use Rattle.theory.specs.Lists.{all}
use Rattle.theory.specs.Table.{Table, base}

-- a form, n readers, records of at most c words
pub record Shape : Type 0 where
  pub form : ℕ
  pub n : ℕ
  pub c : ℕ

abbrev pub shape : ℕ → ℕ → ℕ → Shape
shape form n c = record { form = form; n = n; c = c }

abbrev pub known_form : ℕ → Bool
known_form f = eqb f 1

module _ (k : Shape) where
  -- ---- the table: part 0 is the header, 1 the slots, 2 the reader desks, 3 the writer desk

  abbrev pub rows : ℕ → ℕ
  rows zero = 1
  rows (suc zero) = k.n + 2
  rows (suc (suc zero)) = k.n
  rows (suc (suc (suc g))) = 1

  -- how many words each field of a row has, in the order in which `Area` names them
  abbrev pub fields : ℕ → List ℕ
  fields zero = 1 ∷ 1 ∷ 1 ∷ 1 ∷ 1 ∷ 1 ∷ 1 ∷ 1 ∷ []
  fields (suc zero) = 1 ∷ 1 ∷ 1 ∷ 1 ∷ k.c ∷ []
  fields (suc (suc zero)) = 1 ∷ 1 ∷ 1 ∷ 1 ∷ 1 ∷ 1 ∷ k.c ∷ []
  fields (suc (suc (suc g))) = 1 ∷ 1 ∷ 1 ∷ 1 ∷ 1 ∷ 1 ∷ 1 ∷ k.c ∷ []

  abbrev pub table : Table
  table = record { parts = 4; rows = rows; fields = fields }

  abbrev pub slots_at : ℕ
  slots_at = base table 1

  abbrev pub desks_at : ℕ
  desks_at = base table 2

  abbrev pub writer_at : ℕ
  writer_at = base table 3

  -- ---- numbers

  -- N is 1 to 64, C is 1 to 256
  abbrev pub range_tests : List Bool
  range_tests = leb 1 k.n ∷ leb k.n 64 ∷ leb 1 k.c ∷ leb k.c 256 ∷ []

  abbrev pub in_range : Bool
  in_range = all range_tests

  -- the most that r_start, r_end and the counters may be
  abbrev pub limit : ℕ
  limit = k.n
