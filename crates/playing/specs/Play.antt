-- One move played on an area, a whole run, its tally, and its accepted calls. Assumes nothing.
use Rattle.std.specs.Prelude.{cond, List, [], ◌∷◌, ◌++◌, ℕ, zero, suc, ◌+◌, ◌*◌, eqb, leb}
use Rattle.register.specs.Shape.{Shape, shape}
use Rattle.register.specs.Steps.{Move, write}
use Rattle.register.specs.Calls.{Answer, refused, fresh, made, answered}
use Rattle.runfile.specs.Bytes.{words_at}
use Rattle.runfile.specs.RunFile.{readers, capacity, moves, values, values_at, starting_length, starting_record}
use Rattle.runfile.specs.RunFile.{is_run_file, Written, written, Asked, nothing, values_for, move, asked}
use Rattle.tally.specs.Tally.{Tally, no_tally, counted}

-- ---- one move

-- the area, and how many values are used up
pub record State : Type 0 where
  pub area : List ℕ
  pub used : ℕ

-- 12 for a malformed move, 13 where more values are wanted than are left, then the call's own answer
abbrev pub answer_of : List ℕ → State → Asked → Answer
answer_of b s nothing = refused 12 s.area
answer_of b s (values_for k) =
    cond (leb (s.used + k) (values b))
    (answered s.area (write (words_at k b (values_at b + 8 * s.used))))
    (refused 13 s.area)
answer_of b s (move x) = answered s.area x

-- an accepted begin of a write uses up the next values, a refused one uses none
abbrev pub uses : Asked → Answer → ℕ
uses nothing x = 0
uses (values_for k) x = cond (eqb x.number 0) k 0
uses (move y) x = 0

-- the answer to a move, and how many values are used up then
pub record Outcome : Type 0 where
  pub answer : Answer
  pub used : ℕ

abbrev pub outcome : List ℕ → State → Asked → Outcome
outcome b s y = record { answer = answer_of b s y; used = s.used + uses y (answer_of b s y) }

unfoldable pub played : List ℕ → State → Written → Outcome
played b s w = outcome b s (asked (readers b) w)

abbrev pub next : List ℕ → State → Written → State
next b s w = record { area = (played b s w).answer.area; used = (played b s w).used }

-- ---- a whole run

-- the answers to k moves from move i on, and the state after them
abbrev pub answers : List ℕ → ℕ → ℕ → State → List Answer
answers b zero i s = []
answers b (suc k) i s = (played b s (written b i)).answer ∷ answers b k (suc i) (next b s (written b i))

abbrev pub state_after : List ℕ → ℕ → ℕ → State → State
state_after b zero i s = s
state_after b (suc k) i s = state_after b k (suc i) (next b s (written b i))

abbrev pub tally_of : Tally → List Answer → Tally
tally_of t [] = t
tally_of t (x ∷ l) = tally_of (counted t x.number x.age) l

-- a run file's area is of form 1
abbrev pub run_shape : List ℕ → Shape
run_shape b = shape 1 (readers b) (capacity b)

-- 11 for what is no run file, then making's own answer
unfoldable pub begun : List ℕ → List ℕ → Answer
begun b a = cond (is_run_file b) (made (run_shape b) (starting_record b) a) (refused 11 a)

-- a fresh area with the starting record, whose values are used up
abbrev pub first_state : List ℕ → State
first_state b = record { area = fresh (run_shape b) (starting_record b); used = starting_length b }

abbrev pub run_answers : List ℕ → List Answer
run_answers b = answers b (moves b) 0 (first_state b)

abbrev pub run_state : List ℕ → State
run_state b = state_after b (moves b) 0 (first_state b)

abbrev pub run_tally : List ℕ → Tally
run_tally b = tally_of no_tally (run_answers b)

-- ---- the calls of a run that were accepted

-- the call that a move comes to, if it comes to one
abbrev pub call_of : List ℕ → State → Asked → List Move
call_of b s nothing = []
call_of b s (values_for k) = write (words_at k b (values_at b + 8 * s.used)) ∷ []
call_of b s (move x) = x ∷ []

abbrev pub accepted_call : List ℕ → State → Written → List Move
accepted_call b s w = cond (eqb (played b s w).answer.number 0) (call_of b s (asked (readers b) w)) []

abbrev pub accepted_calls : List ℕ → ℕ → ℕ → State → List Move
accepted_calls b zero i s = []
accepted_calls b (suc k) i s = accepted_call b s (written b i) ++ accepted_calls b k (suc i) (next b s (written b i))
