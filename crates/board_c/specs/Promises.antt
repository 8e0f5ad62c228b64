-- What the words of an area mean, for whoever calls from C. Assumes nothing.
use Rattle.std.specs.Prelude.{◌≡◌, ◌≢◌, List, ℕ, ◌≤◌, length}
use Rattle.theory.specs.Place.{Record}
use Rattle.register.specs.Shape.{Shape}
use Rattle.register.specs.Calls.{made}
use Rattle.board_c.specs.Sizes.{words_of}

-- the words of an area against what making answers, for any record and any words lent
pub record WordsAreMade (k : Shape) (v : Record) (a : List ℕ) : Type 0 where
  -- 0 says that making answers 9, and nothing else says so
  pub refused : words_of k ≡ 0 → (made k v a).number ≡ 9
  pub only : (made k v a).number ≡ 9 → words_of k ≡ 0
  -- as many words, and a record that is not too long: making is accepted
  pub accepted : words_of k ≢ 0 → length a ≡ words_of k → length v ≤ k.c
      → (made k v a).number ≡ 0
  -- another number of words: making answers 10
  pub other : words_of k ≢ 0 → length a ≢ words_of k → (made k v a).number ≡ 10
