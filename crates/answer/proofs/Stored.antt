-- Laws that the proofs of the moves and the calls share. Assumes nothing.
--     hand_slot                        the writer's slot in hand is one of the area's
--     then                             stores behind stores
--     plan_refuses                     a refusal by its number
--     refuses, accepts, ends_write     answers that carry a plan out: a refusal, nothing ended, a write ended
--     goes_on                          and a plan whose first stores are made, and whose others end an operation
use Rattle.std.proofs.Common.{◌≡◌, refl, ap, ◌∙◌, true, false, List, ◌++◌, ℕ, ◌+◌, ◌<◌, arith}
use Rattle.std.specs.Prelude.{Ok, Err, Some, None}
use borrow.Author.Tests.{le-ltb}
use Rattle.register.specs.Shape.{table}
use Rattle.theory.specs.Place.{Store}
use Rattle.register.specs.Area.{in_hand}
use Rattle.register.specs.Steps.{Plan, refuse, accept}
use Rattle.register.specs.Conditions.{Whole}
use Rattle.area.specs.Words.{memory_of, words_after, its_shape}
use Rattle.area.specs.declared.Layout.{Layout}
use Rattle.area.proofs.Behind.{store_append}
use Rattle.answer.specs.declared.refusals.Refusal.{Refusal}
use Rattle.answer.specs.Refusals.{Returned, number_of, answer_number, has_ended, answer_age}
use Rattle.answer.specs.Carried.{whole, carried}

-- the slot that the writer has in hand is one of the area's
pub hand_slot : (p : Layout) (a : List ℕ) {s : ℕ} → Whole (its_shape p) (memory_of p a)
    → s ≡ memory_of p a in_hand
    → s < p.n + 2
hand_slot p a v e = rw e v.writer.hand_one

-- stores behind stores
pub then : (p : Layout) (a : List ℕ) (k l : List Store) {b d : List ℕ} → b ≡ words_after p a k
    → d ≡ words_after p b l
    → d ≡ words_after p a (k ++ l)
then p a k l e f = f ∙ ap (λ y. words_after p y l) e ∙ store_append (table (its_shape p)) a k l

module _ (p : Layout) (q : ℕ) (a : List ℕ) (plan : Plan) where
  -- a refusal changes no word: of any number, where nothing ended
  pub plan_refuses : (k : ℕ) (x : Returned) → plan ≡ refuse k → answer_number x ≡ k → has_ended x ≡ false
      → answer_age x ≡ 0
      → whole x a ≡ carried p q a plan
  unfolding carried
  plan_refuses k x e f g h = rw (e, f, g, h) refl

  pub refuses : (e : Refusal) → plan ≡ refuse (number_of e) → whole (Err e) a ≡ carried p q a plan
  unfolding carried
  refuses e f = rw f refl

  -- nothing ended
  pub accepts : (l : List Store) {b : List ℕ} → plan ≡ accept l false → b ≡ words_after p a l
      → whole (Ok None) b ≡ carried p q a plan
  unfolding carried
  accepts l f g = rw (f, g) refl

  -- the first stores are made, and the others end an operation
  pub goes_on : (k l : List Store) (x : Returned) {b d : List ℕ} → plan ≡ accept (k ++ l) true
      → b ≡ words_after p a k → whole x d ≡ carried p q b (accept l true) → whole x d ≡ carried p q a plan
  unfolding carried
  goes_on k l x e f g = g ∙ rw (e, then p a k l f refl)

-- a write ended
pub ends_write : (p : Layout) (a : List ℕ) (plan : Plan) (l : List Store) {b : List ℕ} → plan ≡ accept l true
    → b ≡ words_after p a l
    → whole (Ok (Some 0)) b ≡ carried p p.n a plan
unfolding carried
ends_write p a plan l f g = rw (f, g, le-ltb p.n p.n (omega arith)) refl
