-- Sums over a range of numbers, and the slot that n readers cannot hold. Assumes nothing.
use mathlib.Core.Path.{◌≡◌, refl, sym, subst, ◌∙◌}
use mathlib.Core.Logic.{◌≢◌}
use mathlib.Core.Bool.{cond}
use Prim.Native.Nat.{ℕ, zero, suc, ◌+◌, ◌≤◌, ◌<◌}
use native.Mathlib.Decide.{ℕ_discrete}
use native.Mathlib.Omega.{arith}
use lib.Dec.{eqb}
use Rattle.theory.proofs.Tests.{hit, miss}

unfoldable pub sum : ℕ → (ℕ → ℕ) → ℕ
sum zero f = zero
sum (suc n) f = sum n f + f n

pub sum_same : (n : ℕ) (f g : ℕ → ℕ) → ((i : ℕ) → i < n → f i ≡ g i) → sum n f ≡ sum n g
unfolding sum
sum_same zero f g h = refl
sum_same (suc n) f g h = omega (arith, sum_same n f g (λ i l. h i (omega arith)), h n (omega arith))

-- two functions that differ at r only
pub sum_one : (n : ℕ) (f g : ℕ → ℕ) (r : ℕ) → r < n → ((i : ℕ) → i ≢ r → f i ≡ g i)
    → sum n f + g r ≡ sum n g + f r
unfolding sum
sum_one zero f g r l h = omega arith
sum_one (suc n) f g r l h = go (λ k. sum_one n f g r k h) (ℕ_discrete n r)
  where
    go : (r < n → sum n f + g r ≡ sum n g + f r) → Dec (n ≡ r) → sum n f + f n + g r ≡ sum n g + g n + f r
    go rest (yes e) = rw e (omega (arith, sum_same r f g (λ i k. h i (omega arith))))
    go rest (no d) = omega (arith, rest (omega arith), h n d)

pub sum_at_most : (n : ℕ) (f g : ℕ → ℕ) → ((i : ℕ) → i < n → f i ≤ g i) → sum n f ≤ sum n g
unfolding sum
sum_at_most zero f g h = omega arith
sum_at_most (suc n) f g h = omega (arith, sum_at_most n f g (λ i l. h i (omega arith)), h n (omega arith))

pub sum_member : (n : ℕ) (f : ℕ → ℕ) (i : ℕ) → i < n → f i ≤ sum n f
unfolding sum
sum_member zero f i h = absurd (omega arith)
sum_member (suc n) f i h = go (λ k. sum_member n f i k) (ℕ_discrete n i)
  where
    go : (i < n → f i ≤ sum n f) → Dec (n ≡ i) → f i ≤ sum n f + f n
    go rest (yes e) = rw e (omega arith)
    go rest (no d) = omega (arith, rest (omega arith))

pub sum_add : (n : ℕ) (f g : ℕ → ℕ) → sum n (λ i. f i + g i) ≡ sum n f + sum n g
unfolding sum
sum_add zero f g = refl
sum_add (suc n) f g = omega (arith, sum_add n f g)

pub sum_zero : (n : ℕ) → sum n (λ i. 0) ≡ 0
unfolding sum
sum_zero zero = refl
sum_zero (suc n) = omega (arith, sum_zero n)

pub sum_ones : (n : ℕ) → sum n (λ i. 1) ≡ n
unfolding sum
sum_ones zero = refl
sum_ones (suc n) = omega (arith, sum_ones n)

pub sum_swap : (n k : ℕ) (f : ℕ → ℕ → ℕ)
    → sum n (λ i. sum k (λ j. f i j)) ≡ sum k (λ j. sum n (λ i. f i j))
unfolding sum
sum_swap zero k f = sym (sum_zero k)
sum_swap (suc n) k f = omega (arith, sum_swap n k f, sum_add k (λ j. sum n (λ i. f i j)) (λ j. f n j))

-- a sum that is smaller than the number of its terms has a zero among them
pub sum_hole : (n : ℕ) (f : ℕ → ℕ) → sum n f < n → (i : ℕ) × (i < n) × (f i ≡ 0)
unfolding sum
sum_hole zero f h = absurd (omega arith)
sum_hole (suc n) f h = go (λ k. sum_hole n f k) (ℕ_discrete (f n) 0)
  where
    go : (sum n f < n → (i : ℕ) × (i < n) × (f i ≡ 0)) → Dec (f n ≡ 0)
        → (i : ℕ) × (i < suc n) × (f i ≡ 0)
    go rest (yes e) = (n, omega arith, e)
    go rest (no d) =
        let (i, l, e) = rest (omega arith) in
        (i, omega arith, e)

-- n readers that are bound to one slot each at most leave one of n + 2 slots unbound beside slot i
pub spare : (n i : ℕ) (bound : ℕ → ℕ) → i < n + 2 → sum (n + 2) bound ≤ n
    → (s : ℕ) × (s < n + 2) × (s ≢ i) × (bound s ≡ 0)
spare n i bound l few =
    found (sum_hole (n + 2) taken (omega (arith, sum_one (n + 2) taken bound i l elsewhere, hit i 1 (bound i))))
  where
    taken : ℕ → ℕ
    taken s = cond (eqb s i) 1 (bound s)

    elsewhere : (s : ℕ) → s ≢ i → taken s ≡ bound s
    elsewhere s d = miss s i d 1 (bound s)

    found : (s : ℕ) × (s < n + 2) × (taken s ≡ 0) → (s : ℕ) × (s < n + 2) × (s ≢ i) × (bound s ≡ 0)
    found (s, k, z) =
        let d : s ≢ i = λ e. omega (arith, hit i 1 (bound i), subst (λ y. taken y ≡ 0) e z) in
        (s, k, d, sym (elsewhere s d) ∙ z)
