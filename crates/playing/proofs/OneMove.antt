-- A begin of a write with the next values of a run file: the first 257 words of a longer record are enough.
-- Assumes nothing.
use mathlib.Core.Path.{◌≡◌, ap}
use mathlib.Core.Bool.{true}
use mathlib.Core.List.{List}
use Prim.Native.Nat.{ℕ, ◌<◌, ◌≤◌, min}
use native.Mathlib.Decide.{ℕ_discrete}
use native.Mathlib.Omega.{arith}
use Rattle.std.proofs.lemmas.Bool.Decides.{nat_tests}
use lib.ListN.{length, take}
use lib.Seq.{length-take-le}
use Rattle.theory.specs.Place.{Record}
use Rattle.register.specs.Area.{is_area, shape_of}
use Rattle.register.specs.Steps.{write}
use Rattle.register.specs.Calls.{answered}
use Rattle.register.proofs.Facts.{area_facts}
use Rattle.runfile.specs.Bytes.{words_at}
use Rattle.playing.specs.Code.{one_too_many}
use Rattle.playing.proofs.Values.{words_length}

-- a record of more than 256 words is too long for every area
too_long : (a : List ℕ) (u v : Record) → 256 < length u → 256 < length v
    → answered a (write u) ≡ answered a (write v)
unfolding answered
too_long a u v long_u long_v = grind (arith, nat_tests, too_few a)
  where
    too_few : (a : List ℕ) → is_area a ≡ true → (shape_of a).c ≤ 256
    too_few a e = (area_facts a e).range.few_words

-- so of a longer one the values that fill the first words up to that one are enough
pub enough : (a b l : List ℕ) (i len : ℕ) {k : ℕ} {v : List ℕ} → one_too_many ≤ length l
    → k ≡ min len one_too_many
    → v ≡ words_at (length (take k l)) b i
    → answered a (write v) ≡ answered a (write (words_at len b i))
enough a b l i len {k} {v} room e full = go (ℕ_discrete k len)
  where
    all : length (take k l) ≡ k
    all = length-take-le k l (omega arith)

    go : Dec (k ≡ len) → answered a (write v) ≡ answered a (write (words_at len b i))
    go (yes d) = rw (full, all, d)
    go (no d) =
        too_long a v (words_at len b i) (omega (arith, ap length full, all, words_length)) (omega (arith, words_length))
