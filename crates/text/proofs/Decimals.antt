-- The fewest digits that hold a number, as the kit's `io::decimal` puts them, are its digits in decimal.
-- Assumes nothing.
use mathlib.Core.Path.{◌≡◌, subst}
use Prim.Native.Nat.{ℕ, zero, suc, ◌-◌, ◌/◌, ◌^◌, ◌≤◌, ◌<◌}
use native.Mathlib.Nat.{pow-suc, one-le-pow, pow-le-pow_right, le_of_suc-le-suc, lt_of_not-le}
use native.Mathlib.Omega.{arith}
use Rattle.std.proofs.lemmas.Bool.Decides.{nat_tests}
use Rattle.io.specs.Digits.{last_digits, IsDigitCount}
use Rattle.text.specs.Lines.{digits_within, decimal}

-- a number of several digits is no smaller than the least one of as many
at_least : (j n : ℕ) → IsDigitCount 10 1 n (suc (suc j)) → 10 ^ suc j ≤ n
at_least j n fewest = subst (λ k. 10 ^ k ≤ n) (omega arith) (fewest.2 (omega arith))

-- what is left of it without its last digit
shorter : (j n : ℕ) → IsDigitCount 10 1 n (suc (suc j)) → IsDigitCount 10 1 (n / 10) (suc j)
shorter j n fewest =
    let more = pow-suc 10 (suc j) in
    let less = pow-suc 10 j in
    let filled : 10 ^ j ≤ n / 10 = omega (arith, at_least j n fewest) in
    (omega arith, omega (arith, fewest.1), λ h. subst (λ k. 10 ^ k ≤ n / 10) (omega arith) filled)

several : (j n : ℕ) → IsDigitCount 10 1 n (suc (suc j)) → 10 ≤ n
several j n fewest = omega (arith, at_least j n fewest, pow-suc 10 j, one-le-pow j 10 (omega arith))

pub spelled : (f k n : ℕ) → IsDigitCount 10 1 n k → k ≤ f → last_digits 10 k n ≡ digits_within f n
spelled zero k n fewest h = absurd (omega (arith, fewest.0))
spelled (suc f) zero n fewest h = absurd (omega (arith, fewest.0))
spelled (suc f) (suc zero) n fewest h =
    let few : n < 10 = omega (arith, fewest.1, pow-suc 10 0) in
    grind (arith, nat_tests)
spelled (suc f) (suc (suc j)) n fewest h =
    let many = several j n fewest in
    let front = spelled f (suc j) (n / 10) (shorter j n fewest) (omega arith) in
    grind (arith, nat_tests)

-- 20 digits hold a 64-bit word
not_more : (k n : ℕ) → n < 18446744073709551616 → IsDigitCount 10 1 n k → 20 < k → ⊥
not_more k n small fewest over =
    let there : 10 ^ (k - 1) ≤ n = fewest.2 (omega arith) in
    let longer : 20 ≤ k - 1 = omega arith in
    let many : 10 ^ 20 ≤ 10 ^ (k - 1) = pow-le-pow_right {n = 10} (omega arith) longer in
    omega (arith, there, many)

pub word_spelled : (k n : ℕ) → n < 18446744073709551616 → IsDigitCount 10 1 n k → last_digits 10 k n ≡ decimal n
unfolding decimal
word_spelled k n small fewest =
    spelled 20 k n fewest (le_of_suc-le-suc (lt_of_not-le (not_more k n small fewest)))
