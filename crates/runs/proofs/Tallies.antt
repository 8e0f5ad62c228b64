-- The tally of answers: how many were accepted, how many there are, the greatest age. Assumes nothing.
use mathlib.Core.Path.{◌≡◌, refl, ap}
use mathlib.Core.List.{List, [], ◌∷◌}
use Prim.Native.Nat.{ℕ, zero, suc, ◌+◌, max}
use native.Mathlib.Omega.{arith}
use Rattle.std.proofs.lemmas.Bool.Decides.{nat_tests}
use lib.ListN.{length}
use Rattle.register.specs.Steps.{Move}
use Rattle.register.specs.Calls.{Answer, answered}
use Rattle.runfile.specs.RunFile.{written}
use Rattle.tally.specs.Tally.{Tally, counted}
use Rattle.playing.specs.Play.{State, next, answers, tally_of}
use Rattle.runs.specs.Promise.{answers_to, accepted_only, greatest_age}

-- what a list of answers adds to a tally
pub record Adds (t u : Tally) (l : List Answer) : Type 0 where
  pub accepted : u.accepted ≡ t.accepted + length (accepted_only l)
  pub all : u.accepted + u.refusals ≡ t.accepted + t.refusals + length l
  pub greatest : u.greatest ≡ max t.greatest (greatest_age (accepted_only l))

adds_one : (t u : Tally) (x : Answer) (l : List Answer) → Adds (counted t x.number x.age) u l
    → Adds t u (x ∷ l)
unfolding counted
adds_one t u x l h = grind (arith, nat_tests)

pub adds : (t : Tally) (l : List Answer) → Adds t (tally_of t l) l
adds t [] = grind arith
adds t (x ∷ l) = adds_one t _ x l (adds (counted t x.number x.age) l)

-- ---- how many answers there are

pub answers_length : (b : List ℕ) (k i : ℕ) (s : State) → length (answers b k i s) ≡ k
answers_length b zero i s = refl
answers_length b (suc k) i s = ap suc (answers_length b k (suc i) (next b s (written b i)))

pub answers_to_length : (a : List ℕ) (l : List Move) → length (answers_to a l) ≡ length l
answers_to_length a [] = refl
answers_to_length a (x ∷ l) = ap suc (answers_to_length (answered a x).area l)
