-- The number of an answer is 0 exactly where the call was accepted. Assumes nothing.
use Rattle.std.proofs.Common.{◌≡◌, refl}
use Rattle.std.specs.Prelude.{eqb, Ok, Err}
use Rattle.std.specs.Result.{is_ok}
use Rattle.answer.specs.declared.refusals.Refusal.TheVariants as refusals
use Rattle.answer.specs.Refusals.{Returned, answer_number}

pub accepted_by_number : (x : Returned) → eqb (answer_number x) 0 ≡ is_ok x
accepted_by_number (Ok x) = refl
accepted_by_number (Err refusals.NotAnArea) = refl
accepted_by_number (Err refusals.Damaged) = refl
accepted_by_number (Err refusals.NoProcess) = refl
accepted_by_number (Err refusals.TooLong) = refl
accepted_by_number (Err refusals.Busy) = refl
accepted_by_number (Err refusals.Idle) = refl
accepted_by_number (Err refusals.Full) = refl
accepted_by_number (Err refusals.NoneFree) = refl
accepted_by_number (Err refusals.OutOfRange) = refl
accepted_by_number (Err refusals.AnotherLength) = refl
accepted_by_number (Err refusals.NoRunFile) = refl
accepted_by_number (Err refusals.Malformed) = refl
accepted_by_number (Err refusals.TooFewValues) = refl
