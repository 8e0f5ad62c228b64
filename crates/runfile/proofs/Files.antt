-- Run files by their tests: what one that passed has. Assumes nothing.
use mathlib.Core.Path.{◌≡◌}
use mathlib.Core.Bool.{true}
use mathlib.Core.List.{List}
use Prim.Native.Nat.{ℕ}
use Rattle.std.proofs.lemmas.Bool.Decides.{nat_tests}
use native.Mathlib.Omega.{arith}
use Rattle.runfile.specs.RunFile.{is_run_file}
use Rattle.runfile.specs.Conditions.{FileFacts}

pub file_facts : (b : List ℕ) → is_run_file b ≡ true → FileFacts b
unfolding is_run_file
file_facts b e = grind (arith, nat_tests)
