-- The answers of the code by document 01's numbers, flag and age. Assumes nothing.
use Rattle.std.specs.Prelude.{Bool, true, false, ℕ, Result, Ok, Err, Option, Some, None}
use Rattle.answer.specs.declared.refusals.Refusal.{Refusal}
use Rattle.answer.specs.declared.refusals.Refusal.TheVariants as refusals

-- the number of each refusal
abbrev pub number_of : Refusal → ℕ
number_of refusals.NotAnArea = 1
number_of refusals.Damaged = 2
number_of refusals.NoProcess = 3
number_of refusals.TooLong = 4
number_of refusals.Busy = 5
number_of refusals.Idle = 6
number_of refusals.Full = 7
number_of refusals.NoneFree = 8
number_of refusals.OutOfRange = 9
number_of refusals.AnotherLength = 10
number_of refusals.NoRunFile = 11
number_of refusals.Malformed = 12
number_of refusals.TooFewValues = 13

-- an accepted call, with an age where an operation ended, or a refusal
abbrev pub Returned : Type 0
Returned = Result (Option ℕ) Refusal

-- the number that is returned: 0 for an accepted call
abbrev pub answer_number : Returned → ℕ
answer_number (Ok x) = 0
answer_number (Err e) = number_of e

-- whether an operation ended
abbrev pub has_ended : Returned → Bool
has_ended (Ok (Some age)) = true
has_ended (Ok None) = false
has_ended (Err e) = false

-- the age: that of the operation that ended, or 0
abbrev pub answer_age : Returned → ℕ
answer_age (Ok (Some age)) = age
answer_age (Ok None) = 0
answer_age (Err e) = 0
