-- What the code's own types stand for in the definitions. Assumes nothing.
use Rattle.std.specs.Prelude.{List, ℕ}
use Rattle.answer.specs.Carried.{whole}
use Rattle.playing.specs.Play.{State, Outcome}
use Rattle.playing.specs.declared.types.Played as code_played

-- what a move came to and the words it left
abbrev pub as_outcome : code_played.Played → List ℕ → Outcome
as_outcome x a = record { answer = whole x.answer a; used = x.used }

abbrev pub state : List ℕ → ℕ → State
state a used = record { area = a; used = used }

-- one word more than the largest C: a record of so many words is too long for every area
abbrev pub one_too_many : ℕ
one_too_many = 257
