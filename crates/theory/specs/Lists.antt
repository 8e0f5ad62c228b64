-- Lists: what holds of each of a list, tests that all pass, a part of a list of words. Assumes nothing.
use Rattle.std.specs.Prelude.{Bool, true, ◌&&◌, List, [], ◌∷◌, ℕ, zero, suc, take, drop}

-- what holds of each of a list
pub data Each {A : Type 0} (P : A → Type 0) : List A → Type 0 where
  none : Each P []
  also : {x : A} {l : List A} → P x → Each P l → Each P (x ∷ l)

-- all tests of a list pass
abbrev pub all : List Bool → Bool
all [] = true
all (b ∷ l) = b && all l

-- the test passes for each of the k numbers from i on
abbrev pub every : ℕ → ℕ → (ℕ → Bool) → Bool
every zero i test = true
every (suc k) i test = test i && every k (suc i) test

-- k words of a list, from word i on
abbrev pub words_from : List ℕ → ℕ → ℕ → List ℕ
words_from a i k = take k (drop i a)
