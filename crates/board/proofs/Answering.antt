-- A call on words that pass the test is its plan carried out. Assumes nothing.
use mathlib.Core.Path.{◌≡◌, refl, sym, ap, ap₂, ◌∙◌}
use mathlib.Core.Bool.{Bool, cond}
use mathlib.Core.List.{List}
use Prim.Native.Nat.{ℕ, ◌<◌}
use native.Mathlib.Omega.{arith}
use lib.Dec.{ltb, eqb}
use borrow.Author.Tests.{lt-ltb, le-ltb, eq-eqb, ne_eqb}
use Rattle.register.specs.Area.{memory, shape_of}
use Rattle.register.specs.Steps.{Plan, refuse, accept, reader_step, writer_step, Move, step, mover, plan}
use Rattle.register.specs.Calls.{refused, carried_out, answered}
use Rattle.register.proofs.Facts.{every_call}
use Rattle.area.specs.declared.Layout.{Layout}
use Rattle.area.specs.Words.{its_shape, layout_of, memory_of}
use Rattle.testing.proofs.TestResult.{Passes}
use Rattle.answer.specs.Carried.{carried}

module _ {p : Layout} {a : List ℕ} (t : Passes p a) where
  pub carries_out : (x : Move)
      → carried p (mover (its_shape p) x) a (plan (its_shape p) (memory_of p a) x) ≡ answered a x
  unfolding carried carried_out answered
  carries_out x =
      ap (λ q. carried q (mover (its_shape q) x) a (plan (its_shape q) (memory_of q a) x)) t.layout
      ∙ go (plan (shape_of a) (memory a) x)
      ∙ sym (λ i. cond (t.area i)
      (cond (every_call (shape_of a) x i) (cond (t.undamaged i) done (refused 2 a)) (refused 1 a)) (refused 1 a))
    where
      done : Rattle.register.specs.Calls.Answer
      done = carried_out (mover (shape_of a) x) a (plan (shape_of a) (memory a) x)

      go : (y : Plan) → carried (layout_of (shape_of a)) (mover (shape_of a) x) a y
          ≡ carried_out (mover (shape_of a) x) a y
      go (refuse j) = refl
      go (accept stores ends) = refl

  module _ (q : ℕ) where
    abbrev reads : Plan
    reads = reader_step (its_shape p) (memory_of p a) q

    abbrev writes : Plan
    writes = writer_step (its_shape p) (memory_of p a)

    -- what a step carries out, once its process is known
    picked : {x y : Bool} → ltb q p.n ≡ x → eqb q p.n ≡ y
        → carried p q a (cond x reads (cond y writes (refuse 3))) ≡ answered a (step q)
    picked l e =
        sym (ap₂ (λ x y. carried p q a (cond x reads (cond y writes (refuse 3)))) l e) ∙ carries_out (step q)

    pub by_reader : q < p.n → carried p q a reads ≡ answered a (step q)
    by_reader l = picked (lt-ltb q p.n l) refl

    pub by_writer : q ≡ p.n → carried p p.n a writes ≡ answered a (step q)
    by_writer e =
        ap (λ j. carried p j a writes) (sym e)
        ∙ picked (le-ltb q p.n (omega (arith, e))) (eq-eqb q p.n e)

    pub by_nobody : p.n < q → refused 3 a ≡ answered a (step q)
    unfolding carried
    by_nobody l = picked (le-ltb q p.n (omega arith)) (ne_eqb q p.n (λ e. omega (arith, e)))
