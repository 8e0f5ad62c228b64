-- What calls answer beside their number: who has an age, and what showing gives, on any words. Assumes nothing.
use Rattle.std.specs.Prelude.{◌≡◌, false, ◌&&◌, List, ℕ, ◌+◌, ◌*◌, ltb, take, drop}
use Rattle.theory.specs.Place.{Record}
use Rattle.register.specs.Conditions.{desk_words, desks_from, word, said}
use Rattle.register.specs.Shape.{Shape}
use Rattle.register.specs.Steps.{Move, mover}
use Rattle.register.specs.Calls.{made, answered, shown}
use Rattle.register.specs.Numbers.{OwnToShow}
use Rattle.register.specs.Stands.{desk}

-- the len words in that reader's desk, which are words of the area; or the caller's whole default
pub record Shows (a : List ℕ) (r : ℕ) (default : Record) : Type 0 where
  pub its_own : OwnToShow a r
      → shown a r default
      ≡ take (desk a r 3) (drop (desks_from (said a) + r * desk_words (said a) + 6) a)
  pub the_default : (¬ OwnToShow a r) → shown a r default ≡ default

pub record Answers : Type 0 where
  -- making ends no operation and has no age, accepted or not
  pub makes : (k : Shape) (v : Record) (a : List ℕ) → ((made k v a).ended ≡ false) × ((made k v a).age ≡ 0)
  -- any other answer than that to the step that ends a read has age 0
  pub ages : (a : List ℕ) (x : Move) → (answered a x).ended && ltb (mover (said a) x) (word a 1) ≡ false
      → (answered a x).age ≡ 0
  pub shows : (a : List ℕ) (r : ℕ) (default : Record) → Shows a r default
