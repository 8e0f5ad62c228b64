-- A test of each number from 0 on, as an iterator's `all` makes it. Assumes nothing.
use mathlib.Core.Bool.{Bool, true, false}
use mathlib.Core.List.{List}
use mathlib.Core.Path.{◌≡◌, refl, sym, ap, ◌∙◌, subst}
use Prim.Native.Nat.{ℕ, ◌<◌}
use native.Mathlib.Omega.{arith}
use lib.Dec.{T}
use lib.ListN.{length, get_or}
use denote.Param.Members.{Mut}
use Rattle.std.specs.Prelude.{Option}
use Rattle.std.specs.declared.ops.Range.{Range}
use Rattle.std.specs.Bool.{MatchBool}
use Rattle.std.specs.Fn.{Called}
use Rattle.std.specs.Iterator.{YieldsThen}
use Rattle.std.specs.List.{range_with_len, AllWithin, HoldsAt, FoldsTo}
use Rattle.std.specs.Option.{MatchOption}
use Rattle.std.proofs.iter.Yields.{nat_range_steps}
use Rattle.std.proofs.lemmas.Iterator.{cases_from_all, YieldsList-from_range}
use Rattle.std.proofs.lemmas.List.FromFn.{length-range_with_len, get_or-range_with_len}
use Rattle.theory.specs.Lists.{every}
use Rattle.theory.proofs.Tests.{passed, true_passes, each_of, of_each}

module _ (test : ℕ → Bool) (n : ℕ) where
  abbrev numbers : List ℕ
  numbers = range_with_len 0 n

  count : length numbers ≡ n
  count = length-range_with_len 0 n

  -- number k of them is k
  number : (k : ℕ) → k < n → get_or numbers k 0 ≡ k
  number k h = omega (arith, get_or-range_with_len 0 n k 0 h)

  -- all of them pass, or one fails
  told : (r : Bool)
      → MatchBool r (AllWithin (λ i. test i ≡ true) numbers 0 (length numbers))
      ((k : ℕ) × (k < length numbers) × HoldsAt (λ i. test i ≡ false) numbers k)
      → r ≡ every n 0 test
  told true h =
      sym
      (passed _
      (of_each n 0 test
      (λ k lo hi. true_passes _ (sym (ap test (number k (omega arith))) ∙ h k 0 lo (omega (arith, count))))))
  told false (k, l, h) = go (every n 0 test) refl
    where
      go : (b : Bool) → every n 0 test ≡ b → false ≡ b
      go false e = refl
      go true e =
          let hi : k < n = omega (arith, l, count) in
          absurd
          (subst T (sym (ap test (number k hi)) ∙ h 0)
          (each_of n 0 test (true_passes _ e) k (omega arith) (omega (arith, hi))))

  -- what `all` returns over 0..n, where the closure makes that test
  pub all_is : {F : Type 0} {g : Mut F (ℕ × Unit {0}) Bool} {s : Range ℕ} (u : Range ℕ) (f : F) (r : Bool)
      → (xs : List ℕ) × (o : Option ℕ) × (j : F) × YieldsThen nat_range_steps s xs o u
      × FoldsTo (λ p x q. Called g p (x, tt) true q) f xs j
      × MatchOption o (r ≡ true) (λ x. (r ≡ false) × ((h : F) × Called g j (x, tt) false h))
      → s ≡ record { start = 0; end = n }
      → ((x : ℕ) (q : F) → Called g f (x, tt) true q → (q ≡ f) × (test x ≡ true))
      → ((x : ℕ) (q : F) → Called g f (x, tt) false q → test x ≡ false)
      → r ≡ every n 0 test
  all_is u f r ran e holds fails =
      told r
      (cases_from_all u f r (λ i. test i ≡ true) (λ i. test i ≡ false) ran (YieldsList-from_range 0 n n e (omega arith))
      holds fails)
