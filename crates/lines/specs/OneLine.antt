-- The lines that the bench prints, one by one. Assumes nothing.
use Rattle.std.specs.Prelude.{Bool, cond, ◌&&◌, List, [], ◌∷◌, map, ℕ, eqb, ltb}
use Rattle.register.specs.Area.{current, memory}
use Rattle.register.specs.Calls.{Answer, shown}
use Rattle.runfile.specs.RunFile.{readers, capacity, moves, Written}
use Rattle.text.specs.Lines.{Text, decimal, line}
use Rattle.tally.specs.Tally.{Tally}

-- ---- the line of a move

-- 'B' for a begin, 'S' for a step, '?' for another kind
abbrev pub letter : ℕ → ℕ
letter kind = cond (eqb kind 0) 66 (cond (eqb kind 1) 83 63)

abbrev pub one_if : Bool → ℕ
one_if t = cond t 1 0

-- after a finished read also the age and the words
abbrev pub read_fields : ℕ → Written → Answer → List Text
read_fields n w x =
    cond (x.ended && ltb w.process n)
    (decimal x.age ∷ map decimal (shown x.area w.process []))
    []

-- a move's number, process, B or S, answer number, 1 if an operation ended or else 0
abbrev pub answer_line : ℕ → ℕ → Written → Answer → Text
answer_line n i w x =
    line (decimal i)
    (decimal w.process ∷ (letter w.kind ∷ []) ∷ decimal x.number ∷ decimal (one_if x.ended)
    ∷ read_fields n w x)

-- ---- the first line, the last, and that of a file that is none

-- 'run', 'end', 'refused'
abbrev pub run_word : Text
run_word = 114 ∷ 117 ∷ 110 ∷ []

abbrev pub end_word : Text
end_word = 101 ∷ 110 ∷ 100 ∷ []

abbrev pub refused_word : Text
refused_word = 114 ∷ 101 ∷ 102 ∷ 117 ∷ 115 ∷ 101 ∷ 100 ∷ []

abbrev pub first_line : List ℕ → Text
first_line b = line run_word (decimal (readers b) ∷ decimal (capacity b) ∷ decimal (moves b) ∷ [])

-- the current word, accepted moves, refused moves, greatest age
abbrev pub last_line : List ℕ → Tally → Text
last_line a t =
    line end_word
    (decimal (memory a current) ∷ decimal t.accepted ∷ decimal t.refusals ∷ decimal t.greatest ∷ [])

abbrev pub refused_text : Text
refused_text = line refused_word (decimal 11 ∷ [])
