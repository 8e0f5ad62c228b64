-- What calls answer beside their number. Assumes nothing.
use mathlib.Core.Path.{◌≡◌, refl, ap, ◌∙◌}
use mathlib.Core.Bool.{false, cond, ◌&&◌}
use mathlib.Core.List.{List}
use Prim.Native.Nat.{ℕ, ◌+◌, ◌*◌}
use native.Mathlib.Omega.{arith}
use lib.Dec.{ltb}
use lib.ListN.{take, drop, get_or}
use Rattle.theory.specs.Place.{Record}
use Rattle.theory.specs.Table.{address, view, store}
use Rattle.register.specs.Shape.{Shape, table}
use Rattle.register.specs.Area.{read_record, len, memory, shape_of, readers}
use Rattle.register.specs.Conditions.{desks_from, desk_words, word}
use Rattle.register.specs.Steps.{Plan, refuse, accept, Move, mover, has_call}
use Rattle.register.specs.Calls.{Answer, made, shown, is_own, refused, answered, carried_out, age_of}
use Rattle.register.specs.Calls.{making_tests, call_tests}
use Rattle.theory.specs.Lists.{words_from}
use Rattle.register.specs.Numbers.{OwnToShow}
use Rattle.register.specs.Answers.{Shows, Answers}
use Rattle.theory.proofs.Tests.{if_true}
use Rattle.register.proofs.Facts.{own_is, its_plan, unless_all}
use Rattle.register.proofs.Stands.{words_stand}

-- where it is not the reader's, the whole default
default_shown : (a : List ℕ) (r : ℕ) (default : Record) → (¬ OwnToShow a r) → shown a r default ≡ default
unfolding shown
default_shown a r default d =
    if_true (λ x. x ≡ default) (is_own a r) _ _ (λ e. absurd (d ((own_is a r).0 e))) (λ e. refl)

shows : (a : List ℕ) (r : ℕ) (default : Record) → Shows a r default
unfolding shown
shows a r default =
    record {
      its_own = λ f.
          ap (λ t. cond t (words_from a (address (table (shape_of a)) (read_record r 0)) (memory a (len r))) default)
          ((own_is a r).1 f)
          ∙ (λ i. take (get_or ((words_stand a).desks r f.exists i) 3 0) (drop (place i) a));
      the_default = default_shown a r default;
    }
  where
    place : address (table (shape_of a)) (read_record r 0) ≡ desks_from (shape_of a) + r * desk_words (shape_of a) + 6
    place = omega arith

-- any other answer than the end of a read has age 0
carried : (p : ℕ) (a : List ℕ) (y : Plan) → (carried_out p a y).ended && ltb p (readers a) ≡ false
    → (carried_out p a y).age ≡ 0
unfolding carried_out
carried p a (refuse k) e = refl
carried p a (accept stores ends) e =
    ap (λ t. cond t (age_of (view (table (shape_of a)) (store (table (shape_of a)) a stores)) p) 0) e

age_elsewhere : (a : List ℕ) (x : Move) → (answered a x).ended && ltb (mover (shape_of a) x) (word a 1) ≡ false
    → (answered a x).age ≡ 0
unfolding answered
age_elsewhere a x =
    unless_all P (λ i. refused i a) (call_tests a (has_call (shape_of a) x))
    (carried_out (mover (shape_of a) x) a (its_plan a x)) (λ i e. refl)
    (carried (mover (shape_of a) x) a (its_plan a x))
  where
    P : Answer → Type 0
    P y = y.ended && ltb (mover (shape_of a) x) (word a 1) ≡ false → y.age ≡ 0

-- making ends no operation and has no age, accepted or not
making_quiet : (k : Shape) (v : Record) (a : List ℕ) → ((made k v a).ended ≡ false) × ((made k v a).age ≡ 0)
unfolding made
making_quiet k v a =
    unless_all (λ y. (y.ended ≡ false) × (y.age ≡ 0)) (λ i. refused i a) (making_tests k v a) _
    (λ i. (refl, refl)) (refl, refl)

pub answers : Answers
answers = record { makes = making_quiet; ages = age_elsewhere; shows = shows }
