-- Two results that meet a contract of the board are equal: answer and every word of the area. Assumes nothing.
use mathlib.Core.Path.{◌≡◌, refl, sym, ap, ◌∙◌}
use mathlib.Core.Bool.{cond}
use mathlib.Core.List.{List, [], ◌∷◌}
use Prim.Native.Nat.{ℕ}
use lib.ListN.{get_or}
use lib.Dec.{eqb}
use Rattle.std.specs.Prelude.{Ok, Err, Some, None}
use Rattle.register.specs.Calls.{Answer}
use Rattle.answer.specs.declared.refusals.Refusal.{Refusal}
use Rattle.answer.specs.declared.refusals.Refusal.TheVariants as refusals
use Rattle.answer.specs.Refusals.{Returned}
use Rattle.answer.specs.Carried.{whole}

-- the refusal of a number
refusal_of : ℕ → Refusal
refusal_of k =
    get_or
    (refusals.Idle ∷ refusals.NotAnArea ∷ refusals.Damaged ∷ refusals.NoProcess ∷ refusals.TooLong ∷ refusals.Busy
    ∷ refusals.Idle ∷ refusals.Full ∷ refusals.NoneFree ∷ refusals.OutOfRange ∷ refusals.AnotherLength
    ∷ refusals.NoRunFile ∷ refusals.Malformed ∷ refusals.TooFewValues ∷ [])
    k refusals.Idle

-- what was returned, by an answer of `register`
returned_of : Answer → Returned
returned_of d = cond (eqb d.number 0) (cond d.ended (Ok (Some d.age)) (Ok None)) (Err (refusal_of d.number))

given_back : (x : Returned) (a : List ℕ) → returned_of (whole x a) ≡ x
unfolding returned_of refusal_of
given_back (Ok (Some age)) a = refl
given_back (Ok None) a = refl
given_back (Err refusals.NotAnArea) a = refl
given_back (Err refusals.Damaged) a = refl
given_back (Err refusals.NoProcess) a = refl
given_back (Err refusals.TooLong) a = refl
given_back (Err refusals.Busy) a = refl
given_back (Err refusals.Idle) a = refl
given_back (Err refusals.Full) a = refl
given_back (Err refusals.NoneFree) a = refl
given_back (Err refusals.OutOfRange) a = refl
given_back (Err refusals.AnotherLength) a = refl
given_back (Err refusals.NoRunFile) a = refl
given_back (Err refusals.Malformed) a = refl
given_back (Err refusals.TooFewValues) a = refl

-- every contract of a call that may change the area is one equation `whole x b ≡ d`, where d is register's answer
pub unique : (d : Answer) (x y : Returned) (a b : List ℕ) → whole x a ≡ d → whole y b ≡ d
    → (x ≡ y) × (a ≡ b)
unique d x y a b e f = (sym (given_back x a) ∙ ap returned_of same ∙ given_back y b, ap (λ z. z.area) same)
  where
    same : whole x a ≡ whole y b
    same = e ∙ sym f
