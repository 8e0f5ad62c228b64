-- One text put behind another is both put at once. Assumes nothing.
use mathlib.Core.Path.{◌≡◌, refl, ap, ◌∙◌}
use mathlib.Core.List.{List, [], ◌∷◌, ◌++◌}
use Prim.Native.Nat.{ℕ, zero, suc, ◌+◌, ◌≤◌, ◌<◌, min}
use native.Mathlib.Nat.{suc-add}
use native.Mathlib.Omega.{arith}
use lib.ListN.{length, set, take, length-append}
use Rattle.text.specs.Lines.{Text}
use Rattle.text.specs.Sheet.{Sheet, pasted, put, sheet, as_sheet, Puts}
use Rattle.text.specs.declared.Sheet as code

pub pasted_length : (l : List ℕ) (i : ℕ) (t : Text) → length (pasted l i t) ≡ length l
pasted_length [] i t = refl
pasted_length (x ∷ l) (suc i) t = ap suc (pasted_length l i t)
pasted_length (x ∷ l) zero [] = refl
pasted_length (x ∷ l) zero (y ∷ t) = ap suc (pasted_length l zero t)

-- where the first text ended, the second begins
pasted_twice : (l : List ℕ) (i j : ℕ) (t u : Text) → j ≡ min (length l) (i + length t)
    → pasted (pasted l i t) j u ≡ pasted l i (t ++ u)
pasted_twice [] i j t u e = refl
pasted_twice (x ∷ l) (suc i) zero t u e = absurd (omega (arith, suc-add i (length t)))
pasted_twice (x ∷ l) (suc i) (suc j) t u e =
    ap {B = List ℕ} (λ k. x ∷ k) (pasted_twice l i j t u (omega (arith, suc-add i (length t))))
pasted_twice (x ∷ l) zero zero [] u e = refl
pasted_twice (x ∷ l) zero (suc j) [] u e = absurd (omega arith)
pasted_twice (x ∷ l) zero zero (y ∷ t) u e = absurd (omega arith)
pasted_twice (x ∷ l) zero (suc j) (y ∷ t) u e =
    ap {B = List ℕ} (λ k. y ∷ k) (pasted_twice l zero j t u (omega arith))

pub put_twice : (s : Sheet) (t u : Text) → put (put s t) u ≡ put s (t ++ u)
unfolding put
put_twice s t u =
    let l = s.bytes in
    let i = s.end in
    let as_many = pasted_length l i t in
    let joined = length-append t u in
    let ends : min (length (pasted l i t)) (min (length l) (i + length t) + length u) ≡ min (length l)
    (i + length (t ++ u)) =
    omega arith in
    rw (ends, pasted_twice l i (min (length l) (i + length t)) t u refl)

-- as functions tell it, one by one
pub then_put : (s : Sheet) (t u : Text) {r q : Sheet} → r ≡ put s t → q ≡ put r u → q ≡ put s (t ++ u)
then_put s t u e d = d ∙ ap (λ z. put z u) e ∙ put_twice s t u

-- as methods tell it
pub then_puts : {s r q : code.Sheet} {t u : Text} → Puts s r t → Puts r q u → Puts s q (t ++ u)
then_puts {s} {t = t} {u = u} p d =
    record {
      text = d.text ∙ ap (λ z. put z u) p.text ∙ put_twice (as_sheet s) t u;
      same_bytes = d.same_bytes ∙ p.same_bytes;
    }

-- ---- one byte

-- one byte stored, and the rest put behind it
pub pasted_set : (l : List ℕ) (i x : ℕ) (t : Text) → i < length l
    → pasted (set l i x) (suc i) t ≡ pasted l i (x ∷ t)
pasted_set [] i x t h = absurd (omega arith)
pasted_set (y ∷ l) zero x t h = refl
pasted_set (y ∷ l) (suc i) x t h = ap {B = List ℕ} (λ k. y ∷ k) (pasted_set l i x t (omega arith))

-- what was put stands where it was put
pub pasted_front : (l : List ℕ) (t : Text) → length t ≤ length l → take (length t) (pasted l 0 t) ≡ t
pasted_front [] [] h = refl
pasted_front [] (y ∷ t) h = absurd (omega arith)
pasted_front (x ∷ l) [] h = refl
pasted_front (x ∷ l) (y ∷ t) h = ap {B = List ℕ} (λ k. y ∷ k) (pasted_front l t (omega arith))

-- past the end nothing is stored
pasted_past : (l : List ℕ) (i : ℕ) (t : Text) → length l ≤ i → pasted l i t ≡ l
pasted_past [] i t h = refl
pasted_past (x ∷ l) zero t h = absurd (omega arith)
pasted_past (x ∷ l) (suc i) t h = ap {B = List ℕ} (λ k. x ∷ k) (pasted_past l i t (omega arith))

pub pasted_nothing : (l : List ℕ) (i : ℕ) → pasted l i [] ≡ l
pasted_nothing [] i = refl
pasted_nothing (x ∷ l) zero = refl
pasted_nothing (x ∷ l) (suc i) = ap {B = List ℕ} (λ k. x ∷ k) (pasted_nothing l i)

pub put_byte : (l : List ℕ) (i x : ℕ) → i < length l
    → sheet (set l i x) (i + 1) ≡ put (sheet l i) (x ∷ [])
unfolding put
put_byte l i x h =
    let ends : min (length l) (i + 1) ≡ i + 1 = omega arith in
    rw (ends, ← pasted_set l i x [] h, pasted_nothing)

pub put_past : (l : List ℕ) (i : ℕ) (t : Text) → length l ≤ i → sheet l (length l) ≡ put (sheet l i) t
unfolding put
put_past l i t h =
    let ends : min (length l) (i + length t) ≡ length l = omega arith in
    rw (ends, pasted_past l i t h)

pub put_nothing : (l : List ℕ) (i : ℕ) → sheet l (min i (length l)) ≡ put (sheet l i) []
unfolding put
put_nothing l i =
    let ends : min (length l) (i + 0) ≡ min i (length l) = omega arith in
    rw (ends, pasted_nothing l i)

-- ---- what was put

-- it ends inside the bytes, of which there are as many
pub put_inside : (l : List ℕ) (i : ℕ) (t : Text) {k : List ℕ} {j : ℕ} → sheet k j ≡ put (sheet l i) t
    → j ≤ length k
unfolding put
put_inside l i t {k} {j} e =
    let many = ap (λ s. length s.bytes) e ∙ pasted_length l i t in
    let ends = ap (λ s. s.end) e in
    omega arith

-- where there is room for all of it, it is whole
pub put_whole : (l : List ℕ) (t : Text) {k : List ℕ} {j : ℕ} → sheet k j ≡ put (sheet l 0) t
    → length t ≤ length l
    → take j k ≡ t
unfolding put
put_whole l t {k} {j} e h =
    let ends = ap (λ s. s.end) e in
    let all : j ≡ length t = omega arith in
    ap (take j) (ap (λ s. s.bytes) e) ∙ ap (λ i. take i (pasted l 0 t)) all ∙ pasted_front l t h
