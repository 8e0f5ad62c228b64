-- What a run file is, and its moves one by one. Assumes nothing.
use Rattle.std.specs.Prelude.{Bool, cond, ◌&&◌, List, [], ◌∷◌, ℕ, ◌+◌, ◌*◌, eqb, leb, length, get_or}
use Rattle.theory.specs.Place.{Record}
use Rattle.theory.specs.Lists.{all}
use Rattle.register.specs.Steps.{Move, read, step}
use Rattle.runfile.specs.Bytes.{number_at, words_at}

-- ---- the header: seven 4-byte counts and offsets

abbrev pub header_bytes : ℕ
header_bytes = 28

module _ (b : List ℕ) where
  abbrev pub readers : ℕ
  readers = number_at 4 b 0

  abbrev pub capacity : ℕ
  capacity = number_at 4 b 4

  abbrev pub starting_length : ℕ
  starting_length = number_at 4 b 8

  abbrev pub moves : ℕ
  moves = number_at 4 b 12

  abbrev pub moves_at : ℕ
  moves_at = number_at 4 b 16

  abbrev pub values : ℕ
  values = number_at 4 b 20

  abbrev pub values_at : ℕ
  values_at = number_at 4 b 24

  -- a whole header; N 1 to 8, C 1 to 32, I at most C; at most 4,000 moves, behind the header; at most 1,000 values, I
  -- among them, behind the moves; exactly so many bytes
  abbrev pub file_tests : List Bool
  file_tests =
      leb header_bytes (length b)
      ∷ leb 1 readers
      ∷ leb readers 8
      ∷ leb 1 capacity
      ∷ leb capacity 32
      ∷ leb starting_length capacity
      ∷ leb moves 4000
      ∷ eqb moves_at header_bytes
      ∷ leb values 1000
      ∷ leb starting_length values
      ∷ eqb values_at (header_bytes + 4 * moves)
      ∷ eqb (length b) (header_bytes + 4 * moves + 8 * values)
      ∷ []

  -- anything else is 11
  unfoldable pub is_run_file : Bool
  is_run_file = all file_tests

  -- the first I values
  abbrev pub starting_record : Record
  starting_record = words_at starting_length b values_at

-- ---- moves

-- a move of four bytes: process, kind, a 2-byte length
pub record Written : Type 0 where
  pub process : ℕ
  pub kind : ℕ
  pub len : ℕ

abbrev pub written : List ℕ → ℕ → Written
written b k =
    let i = header_bytes + 4 * k in
    record { process = get_or b i 0; kind = get_or b (i + 1) 0; len = number_at 2 b (i + 2) }

-- what it asks for: nothing (it is malformed), a begin of a write with so many values, or a move that takes none
pub data Asked : Type 0 where
  nothing : Asked
  values_for : ℕ → Asked
  move : Move → Asked

-- a length stands only with a begin of process N; kind 0 begins, kind 1 steps
abbrev pub asked : ℕ → Written → Asked
asked n w =
    cond (eqb w.kind 0)
    (cond (eqb w.process n) (values_for w.len) (cond (eqb w.len 0) (move (read w.process)) nothing))
    (cond (eqb w.kind 1 && eqb w.len 0) (move (step w.process)) nothing)
