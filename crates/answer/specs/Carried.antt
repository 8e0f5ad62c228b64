-- The answer of the code beside the area after the call, and a plan carried out on words that a layout fits.
-- Assumes nothing.
use Rattle.std.specs.Prelude.{cond, ◌&&◌, List, ◌≡◌, ℕ, ◌<◌, ltb}
use Rattle.theory.specs.Place.{Memory}
use Rattle.register.specs.Area.{writer_phase, writes_ended, most_writes}
use Rattle.register.specs.Steps.{Plan, refuse, accept}
use Rattle.register.specs.Calls.{Answer, refused, age_of}
use Rattle.register.specs.Conditions.{Whole}
use Rattle.area.specs.Words.{memory_of, words_after}
use Rattle.area.specs.Lent.{shape_at, memory_at}
use Rattle.area.specs.declared.Layout.{Layout}
use Rattle.area.specs.declared.lent.Area.{Area}
use Rattle.answer.specs.Refusals.{Returned, answer_number, has_ended, answer_age}

-- what a call returned and the words it left, as `register` answers
abbrev pub whole : Returned → List ℕ → Answer
whole x a = record { number = answer_number x; ended = has_ended x; age = answer_age x; area = a }

-- an undamaged area
abbrev pub Ready : Area → Type 0
Ready a = Whole (shape_at a) (memory_at a)

-- in writer phase 7, writes ended plus 1 fits into a word: an undamaged area has this
abbrev pub SumFits : Memory → Type 0
SumFits m = m writer_phase ≡ 7 → m writes_ended < most_writes

-- a plan of process q carried out
unfoldable pub carried : Layout → ℕ → List ℕ → Plan → Answer
carried p q a (refuse k) = refused k a
carried p q a (accept stores ends) =
    let b = words_after p a stores in
    record { number = 0; ended = ends; age = cond (ends && ltb q p.n) (age_of (memory_of p b) q) 0; area = b }

-- the same on a lent area
abbrev pub carried_at : ℕ → Area → Plan → Answer
carried_at q a = carried a.layout q a.words.now
