-- What the code's own types stand for in the definitions. Assumes nothing.
use Rattle.std.specs.Prelude.{List, ℕ}
use Rattle.register.specs.Calls.{Answer}
use Rattle.answer.specs.Refusals.{Returned, answer_number, has_ended, answer_age}
use Rattle.lines.specs.declared.Answered.{Answered}

-- what a move was answered and the words it left
abbrev pub answered : Answered → List ℕ → Answer
answered x a = record { number = x.number; ended = x.ended; age = x.age; area = a }

-- an answer of the board, as a line tells it
abbrev pub as_answered : Returned → Answered
as_answered x = record { number = answer_number x; ended = has_ended x; age = answer_age x }
