-- Which number the begin of a run and its moves are answered: each row of `RunNumbers`, both ways. Assumes nothing.
use mathlib.Core.Path.{◌≡◌, refl}
use mathlib.Core.Logic.{◌≢◌, ◌↔◌}
use mathlib.Core.Bool.{Bool, true, false, cond}
use mathlib.Core.List.{List, ◌∷◌}
use Prim.Native.Nat.{ℕ, ◌+◌, ◌*◌}
use native.Mathlib.Decide.{ℕ_discrete}
use native.Mathlib.Omega.{arith}
use lib.Dec.{eqb, leb}
use Rattle.std.proofs.lemmas.Bool.Decides.{nat_tests}
use borrow.Author.Tests.{eqb-true, eqb-false}
use Rattle.register.specs.Steps.{read, step}
use Rattle.register.specs.Calls.{refused}
use Rattle.register.specs.Numbers.{◌if◌, Given, read_rows, write_rows, step_rows}
use Rattle.register.proofs.Rows.{Says, unless_not, unless_at_most, row, passes, holds}
use Rattle.register.proofs.Numbers.{numbers}
use Rattle.runfile.specs.Bytes.{words_at}
use Rattle.runfile.specs.RunFile.{readers, values, values_at, starting_record, is_run_file, Written, values_for}
use Rattle.runfile.specs.RunFile.{move, asked}
use Rattle.runfile.specs.Conditions.{Malformed, another_kind, length_of_step, length_of_read}
use Rattle.runfile.proofs.Conditions.{file_is, asks_nothing, asks_for}
use Rattle.playing.specs.Play.{State, run_shape, answer_of, begun, played}
use Rattle.playing.specs.Numbers.{begin_rows, TooMany, move_rows, RunNumbers}

begin_number : (b a : List ℕ) (k : ℕ) → ((begun b a).number ≡ k) ↔ Given (begin_rows b a) k
unfolding begun
begin_number b a k =
    row (λ x. x.number) (is_run_file b) _ (refused 11 a) (unless_not (is_run_file b) (file_is b))
    (numbers.making (run_shape b) (starting_record b) a k)

malformed_or_not : (n : ℕ) (w : Written) → Dec (Malformed n w)
malformed_or_not n w =
    go (ℕ_discrete w.kind 0) (ℕ_discrete w.kind 1) (ℕ_discrete w.process n) (ℕ_discrete w.len 0)
  where
    only : (w.kind ≢ 0 → w.kind ≡ 1) → (w.kind ≡ 1 → w.len ≡ 0)
        → (w.kind ≡ 0 → w.process ≢ n → w.len ≡ 0)
        → ¬ Malformed n w
    only x y z (another_kind d e) = e (x d)
    only x y z (length_of_step d e) = e (y d)
    only x y z (length_of_read d e f) = f (z d e)

    go : Dec (w.kind ≡ 0) → Dec (w.kind ≡ 1) → Dec (w.process ≡ n) → Dec (w.len ≡ 0)
        → Dec (Malformed n w)
    go (no e) (no f) p l = yes (another_kind e f)
    go (no e) (yes f) p (no l) = yes (length_of_step f l)
    go (yes e) f (no p) (no l) = yes (length_of_read e p l)
    go (no e) (yes f) p (yes l) = no (only (omega arith) (omega arith) (omega arith))
    go (yes e) f (no p) (yes l) = no (only (omega arith) (omega arith) (omega arith))
    go (yes e) f (yes p) l = no (only (omega arith) (omega arith) (omega arith))

module _ (b : List ℕ) (s : State) (w : Written) (k : ℕ) where
  abbrev next_values : List ℕ
  next_values = words_at w.len b (values_at b + 8 * s.used)

  -- a move that is not malformed, by whether it steps and whether it is the writer's
  called : ¬ Malformed (readers b) w → (x y : Bool) → eqb w.kind 1 ≡ x → eqb w.process (readers b) ≡ y
      → ((answer_of b s (cond x (move (step w.process)) (cond y (values_for w.len) (move (read w.process))))
      ).number ≡ k)
      ↔ Given (13 if TooMany b s w ∷ cond x (step_rows s.area w.process)
      (cond y (write_rows s.area next_values) (read_rows s.area w.process))) k
  called d true y ex ey =
      passes (λ t. let e = eqb-true w.kind 1 ex in omega (arith, e, t.begins))
      (numbers.steps s.area w.process k)
  called d false false ex ey =
      passes (λ t. eqb-false w.process (readers b) ey t.writer) (numbers.reads s.area w.process k)
  called d false true ex ey =
      row (λ x. x.number) (leb (s.used + w.len) (values b)) _ (refused 13 s.area) too_many
      (numbers.writes s.area next_values k)
    where
      begins : w.kind ≡ 0
      begins = grind (arith, nat_tests, another_kind)

      too_many : Says (leb (s.used + w.len) (values b)) (TooMany b s w)
      too_many =
          let more = unless_at_most (s.used + w.len) (values b) in (
            λ e. record { begins = begins; writer = eqb-true w.process (readers b) ey; more = more.0 e },
            λ e t. more.1 e t.more,
          )

  move_number : ((played b s w).answer.number ≡ k) ↔ Given (move_rows b s w) k
  unfolding played
  move_number = go (malformed_or_not (readers b) w)
    where
      go : Dec (Malformed (readers b) w)
          → ((answer_of b s (asked (readers b) w)).number ≡ k) ↔ Given (move_rows b s w) k
      go (yes m) = rw (asks_nothing (readers b) w m) (holds m)
      go (no d) =
          rw (asks_for (readers b) w d) (passes d (called d (eqb w.kind 1) (eqb w.process (readers b)) refl refl))

pub run_numbers : RunNumbers
run_numbers = record { begins = begin_number; moves = move_number }
