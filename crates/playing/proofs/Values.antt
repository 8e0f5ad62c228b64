-- Values of a run file taken one by one. Assumes nothing.
use mathlib.Core.Path.{◌≡◌, refl, ap}
use mathlib.Core.List.{List, [], ◌∷◌, ◌++◌}
use Prim.Native.Nat.{ℕ, zero, suc, ◌+◌, ◌*◌}
use native.Mathlib.Omega.{arith}
use lib.ListN.{length}
use Rattle.runfile.specs.Bytes.{number_at, words_at}

pub words_length : (k : ℕ) (b : List ℕ) (i : ℕ) → length (words_at k b i) ≡ k
words_length zero b i = refl
words_length (suc k) b i = ap suc (words_length k b (i + 8))

-- one word more, behind the others
pub words_more : (k : ℕ) (b : List ℕ) (i j : ℕ) → j ≡ i + 8 * k
    → words_at (k + 1) b i ≡ words_at k b i ++ (number_at 8 b j ∷ [])
words_more zero b i j e = rw e (ap (λ p. number_at 8 b p ∷ []) (omega arith))
words_more (suc k) b i j e = grind (arith, words_more k b (i + 8) j)
