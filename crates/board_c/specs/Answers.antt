-- The answer of a call as C has it, beside every word that the call leaves. Assumes nothing.
use Rattle.std.specs.Prelude.{cond, List, ℕ}
use Rattle.register.specs.Calls.{Answer}
use Rattle.answer.specs.Refusals.{Returned, answer_number, has_ended, answer_age}
use Rattle.board_c.specs.declared.BoardAnswer.{BoardAnswer}

-- an answer of the board, with 1 for an operation that ended and 0 for none
abbrev pub as_answer : Returned → BoardAnswer
as_answer x = record { number = answer_number x; ended = cond (has_ended x) 1 0; age = answer_age x }

-- an answer of `register`: what C is returned, and the area as the call leaves it
abbrev pub in_c : Answer → BoardAnswer × List ℕ
in_c d = (record { number = d.number; ended = cond d.ended 1 0; age = d.age }, d.area)
