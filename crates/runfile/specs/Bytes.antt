-- Bytes of a list, and little-endian numbers in it. Assumes nothing.
use Rattle.std.specs.Prelude.{List, [], ◌∷◌, ℕ, zero, suc, ◌+◌, ◌*◌, get_or}

-- k bytes from place i on: past the end there are zeros
abbrev pub bytes_at : ℕ → List ℕ → ℕ → List ℕ
bytes_at zero b i = []
bytes_at (suc k) b i = get_or b i 0 ∷ bytes_at k b (suc i)

-- k bytes from place i on, the lowest first
abbrev pub number_at : ℕ → List ℕ → ℕ → ℕ
number_at zero b i = 0
number_at (suc k) b i = get_or b i 0 + 256 * number_at k b (suc i)

-- the 8-byte words from place i on, k of them
abbrev pub words_at : ℕ → List ℕ → ℕ → List ℕ
words_at zero b i = []
words_at (suc k) b i = number_at 8 b i ∷ words_at k b (i + 8)
