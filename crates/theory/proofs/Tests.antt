-- Tests on numbers: what a test that passes or fails says, and what holds of either branch.
--     passed, true_passes                 a test that passes is true, and the other way
--     both, joined                        two tests that pass
--     all_pass, test_passes               a list of tests that pass; one of them, by its place
--     where_passed, unless_passed         a test that is asked where another one passes
--     where_failed, unless_failed         a test that is asked where another one fails
--     differ_and_same, not_differ_and_same   two numbers that differ and two that do not
--     each_of, of_each                    a test that each number of a range passes
--     each_follows                        what holds of each of a list, from something else that does
--     eqb_same, hit, miss, same_either    a branch whose test is known, or whose sides are the same
--     if_true, if_equal, if_less, if_at_most   what holds of both sides holds of the branch
--     Numbered, at_number                 what holds of every plan of a list holds of the one that is picked
--     at_each                             what holds of one number and of every other
-- Assumes nothing.
use mathlib.Core.Path.{◌≡◌, refl, sym, subst, ◌∙◌}
use mathlib.Core.Logic.{◌≢◌}
use mathlib.Core.Bool.{Bool, true, false, cond, ◌&&◌, ◌||◌, not}
use mathlib.Core.List.{List, [], ◌∷◌}
use Prim.Native.Nat.{ℕ, zero, suc, ◌+◌, ◌≤◌, ◌<◌}
use native.Mathlib.Decide.{ℕ_discrete}
use native.Mathlib.Omega.{arith}
use lib.Dec.{T, T_not, eqb, leb, ltb, eqb→eq, eqb_refl, leb→le, le→leb, ltb→lt, nltb→le}
use lib.ListN.{length, get_or}
use borrow.Author.Tests.{eq-eqb, ne_eqb}
use Rattle.theory.specs.Lists.{all, every, Each, none, also}

-- ---- a test as a fact

pub passed : (b : Bool) → T b → b ≡ true
passed true t = refl
passed false t = absurd t

pub true_passes : (b : Bool) → b ≡ true → T b
true_passes b e = rw e tt

pub eqb_same : (n : ℕ) → eqb n n ≡ true
eqb_same n = passed (eqb n n) (eqb_refl n)

-- ---- tests joined

pub both : (a b : Bool) → T (a && b) → T a × T b
both true b t = (tt, t)
both false b t = absurd t

pub joined : (a b : Bool) → T a → T b → T (a && b)
joined true b t u = u
joined false b t u = absurd t

pub test_passes : (l : List Bool) → T (all l) → (i : ℕ) → T (get_or l i true)
test_passes [] t i = tt
test_passes (b ∷ l) t zero = (both b (all l) t).0
test_passes (b ∷ l) t (suc i) = test_passes l (both b (all l) t).1 i

pub all_pass : (l : List Bool) → Each T l → T (all l)
all_pass [] none = tt
all_pass (b ∷ l) (also x u) = joined b (all l) x (all_pass l u)

-- where another test passes
pub where_passed : (a b : Bool) → T (not a || b) → a ≡ true → T b
where_passed true b t e = t
where_passed false b t e = absurd (subst (λ x. T (not x)) e tt)

pub unless_passed : (a b : Bool) → (a ≡ true → T b) → T (not a || b)
unless_passed true b f = f refl
unless_passed false b f = tt

-- where another test fails
pub where_failed : (a b : Bool) → T (a || b) → a ≡ false → T b
where_failed true b t e = absurd (subst T e tt)
where_failed false b t e = t

pub unless_failed : (a b : Bool) → (a ≡ false → T b) → T (a || b)
unless_failed true b f = tt
unless_failed false b f = f refl

-- two numbers that differ, and two that do not
pub differ_and_same : (a b c d : ℕ) → not (eqb a b) && eqb c d ≡ true → (a ≢ b) × (c ≡ d)
differ_and_same a b c d e =
    let (t, u) = both (not (eqb a b)) (eqb c d) (true_passes _ e) in
    (λ x. T_not (eqb a b) t (true_passes _ (eq-eqb a b x)), eqb→eq c d u)

pub not_differ_and_same : (a b c d : ℕ) → not (eqb a b) && eqb c d ≡ false → a ≢ b → c ≢ d
not_differ_and_same a b c d e x y =
    let z : not (eqb a b) && eqb c d ≡ true = rw (ne_eqb a b x, eq-eqb c d y) in
    subst T (sym z ∙ e) tt

-- each of a range
pub each_of : (k i : ℕ) (test : ℕ → Bool) → T (every k i test) → (j : ℕ) → i ≤ j → j < i + k
    → T (test j)
each_of zero i test t j lo hi = absurd (omega arith)
each_of (suc k) i test t j lo hi =
    go (both (test i) (every k (suc i) test) t) (λ u l. each_of k (suc i) test u j l (omega arith)) (ℕ_discrete i j)
  where
    go : T (test i) × T (every k (suc i) test) → (T (every k (suc i) test) → suc i ≤ j → T (test j))
        → Dec (i ≡ j) → T (test j)
    go (x, u) rest (yes e) = subst (λ y. T (test y)) e x
    go (x, u) rest (no d) = rest u (omega arith)

pub of_each : (k i : ℕ) (test : ℕ → Bool) → ((j : ℕ) → i ≤ j → j < i + k → T (test j))
    → T (every k i test)
of_each zero i test f = tt
of_each (suc k) i test f =
    joined (test i) (every k (suc i) test) (f i (omega arith) (omega arith))
    (of_each k (suc i) test (λ j lo hi. f j (omega arith) (omega arith)))

-- what holds of each of a list still does, if it follows for one
pub each_follows : {A : Type 0} {P Q : A → Type 0} {l : List A} → ((x : A) → P x → Q x) → Each P l
    → Each Q l
each_follows f none = none
each_follows f (also {x = x} b rest) = also (f x b) (each_follows f rest)

-- ---- one branch

pub hit {ℓ} : {A : Type ℓ} (n : ℕ) (x y : A) → cond (eqb n n) x y ≡ x
hit n x y = rw (eqb_same n)

pub miss {ℓ} : {A : Type ℓ} (m n : ℕ) → m ≢ n → (x y : A) → cond (eqb m n) x y ≡ y
miss m n d x y = rw (ne_eqb m n d)

pub same_either {ℓ} : {A : Type ℓ} (b : Bool) (x : A) → cond b x x ≡ x
same_either true x = refl
same_either false x = refl

-- ---- what holds of either branch holds of the test

pub if_true {ℓ} : {A : Type 0} (P : A → Type ℓ) (b : Bool) (x y : A) → (b ≡ true → P x)
    → (b ≡ false → P y)
    → P (cond b x y)
if_true P true x y f g = f refl
if_true P false x y f g = g refl

pub if_equal {ℓ} : {A : Type 0} (P : A → Type ℓ) (m n : ℕ) (x y : A) → (m ≡ n → P x) → (m ≢ n → P y)
    → P (cond (eqb m n) x y)
if_equal P m n x y f g = go (ℕ_discrete m n)
  where
    go : Dec (m ≡ n) → P (cond (eqb m n) x y)
    go (yes e) = subst P (sym (rw (eq-eqb m n e))) (f e)
    go (no d) = subst P (sym (miss m n d x y)) (g d)

pub if_less {ℓ} : {A : Type 0} (P : A → Type ℓ) (m n : ℕ) (x y : A) → (m < n → P x) → (n ≤ m → P y)
    → P (cond (ltb m n) x y)
if_less P m n x y f g = go (ltb m n) refl
  where
    go : (b : Bool) → ltb m n ≡ b → P (cond b x y)
    go true e = f (ltb→lt m n (true_passes (ltb m n) e))
    go false e = g (nltb→le m n (rw e tt))

pub if_at_most : {A : Type 0} (P : A → Type 0) (m n : ℕ) (x y : A) → (m ≤ n → P x) → (n < m → P y)
    → P (cond (leb m n) x y)
if_at_most P m n x y f g = go (leb m n) refl
  where
    over : leb m n ≡ false → (b : Bool) → ltb n m ≡ b → n < m
    over e true d = ltb→lt n m (true_passes (ltb n m) d)
    over e false d = absurd (subst T e (le→leb m n (nltb→le n m (rw d tt))))

    go : (b : Bool) → leb m n ≡ b → P (cond b x y)
    go true e = f (leb→le m n (true_passes (leb m n) e))
    go false e = g (over e (ltb n m) refl)

-- ---- one of a list, by its number

-- what is asked of each entry, numbered from i on
pub data Numbered {ℓ} {A : Type 0} (P : ℕ → A → Type ℓ) : ℕ → List A → Type ℓ where
  end : {i : ℕ} → Numbered P i []
  next : {i : ℕ} {x : A} {l : List A} → P i x → Numbered P (suc i) l → Numbered P i (x ∷ l)

-- the entry with number p, counted from i
pub at_number {ℓ} : {A : Type 0} (P : A → Type ℓ) (p i j : ℕ) (l : List A) (d : A) → p ≡ i + j
    → Numbered (λ k x. p ≡ k → P x) i l
    → (i + length l ≤ p → P d) → P (get_or l j d)
at_number P p i j [] d e end f = f (omega arith)
at_number P p i zero (x ∷ l) d e (next g s) f = g (omega arith)
at_number P p i (suc j) (x ∷ l) d e (next g s) f = at_number P p (suc i) j l d (omega arith) s (λ h. f (omega arith))

-- what holds at r, and at every other number below n
pub at_each : {n : ℕ} (P : ℕ → Type 0) (r : ℕ) → P r → ((q : ℕ) → q < n → q ≢ r → P q)
    → (q : ℕ) → q < n → P q
at_each P r own others q l = go (ℕ_discrete q r)
  where
    go : Dec (q ≡ r) → P q
    go (yes e) = rw e own
    go (no d) = others q l d
