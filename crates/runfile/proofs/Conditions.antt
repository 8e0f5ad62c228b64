-- A run file and a malformed move, by tests and by facts, both ways.
--     file_is           a file passes the tests exactly if its facts hold
--     asks_nothing      a malformed move asks for nothing
--     asks_for          a move that is not malformed asks for what its kind and its process say
-- Assumes nothing.
use mathlib.Core.Path.{◌≡◌}
use mathlib.Core.Logic.{◌↔◌}
use mathlib.Core.Bool.{true, cond}
use mathlib.Core.List.{List}
use Prim.Native.Nat.{ℕ}
use lib.Dec.{T, eqb}
use Rattle.theory.specs.Lists.{all}
use Rattle.std.proofs.lemmas.Bool.Decides.{nat_tests}
use native.Mathlib.Omega.{arith}
use Rattle.register.specs.Steps.{read, step}
use Rattle.theory.proofs.Tests.{passed}
use Rattle.runfile.specs.RunFile.{file_tests, is_run_file, Written, Asked, nothing, values_for, move, asked}
use Rattle.runfile.specs.Conditions.{FileFacts, Malformed, another_kind, length_of_step, length_of_read}
use Rattle.runfile.proofs.Files.{file_facts}

pub file_is : (b : List ℕ) → (is_run_file b ≡ true) ↔ FileFacts b
unfolding is_run_file
file_is b = (file_facts b, λ f. passed _ (back f))
  where
    back : FileFacts b → T (all (file_tests b))
    back f = grind (arith, nat_tests)

module _ (n : ℕ) (w : Written) where
  pub asks_nothing : Malformed n w → asked n w ≡ nothing
  asks_nothing (another_kind d e) = grind (arith, nat_tests)
  asks_nothing (length_of_step e d) = grind (arith, nat_tests)
  asks_nothing (length_of_read e d f) = grind (arith, nat_tests)

  -- what a move asks for that is not malformed: by its kind, and with a begin by its process
  abbrev pub due : Asked
  due = cond (eqb w.kind 1) (move (step w.process))
      (cond (eqb w.process n) (values_for w.len) (move (read w.process)))

  pub asks_for : ¬ Malformed n w → asked n w ≡ due
  asks_for d = grind (arith, nat_tests, another_kind, length_of_step, length_of_read)
