-- Changes of places, stores in a row, and the words of a row as a record. Assumes nothing.
use mathlib.Core.Path.{◌≡◌, refl, sym, ap, ap₂, subst, ◌∙◌}
use mathlib.Core.Logic.{◌≢◌}
use mathlib.Core.Bool.{Bool, true, false, cond}
use mathlib.Core.List.{List, [], ◌∷◌, ◌++◌, map}
use Prim.Native.Nat.{ℕ, zero, suc, ◌+◌, ◌≤◌, ◌<◌}
use native.Mathlib.Decide.{ℕ_discrete}
use native.Mathlib.Omega.{arith}
use lib.Dec.{T, eqb, ltb, ltb→lt, nltb→le}
use lib.ListN.{length, get_or}
use borrow.Author.Tests.{ne_eqb}
use Rattle.theory.specs.Lists.{all}
use Rattle.theory.specs.Place.{Record, Place, Memory, changed, Store, apply, copied}
use Rattle.theory.proofs.Tests.{passed, true_passes, both, eqb_same, same_either}

-- ---- one place changed

pub place_equal : (p q : Place) → p.part ≡ q.part → p.field ≡ q.field → p.row ≡ q.row
    → p.column ≡ q.column → p ≡ q
place_equal p q a b c d = λ i. record { part = a i; field = b i; row = c i; column = d i }

pub place_discrete : (q p : Place) → Dec (q ≡ p)
place_discrete q p =
    at (ℕ_discrete q.part p.part) (ℕ_discrete q.field p.field) (ℕ_discrete q.row p.row)
    (ℕ_discrete q.column p.column)
  where
    at : Dec (q.part ≡ p.part) → Dec (q.field ≡ p.field) → Dec (q.row ≡ p.row)
        → Dec (q.column ≡ p.column) → Dec (q ≡ p)
    at (no x) b c d = no (λ e. x (ap (λ y. y.part) e))
    at (yes x) (no y) c d = no (λ e. y (ap (λ k. k.field) e))
    at (yes x) (yes y) (no z) d = no (λ e. z (ap (λ k. k.row) e))
    at (yes x) (yes y) (yes z) (no w) = no (λ e. w (ap (λ k. k.column) e))
    at (yes x) (yes y) (yes z) (yes w) = yes (place_equal q p x y z w)

pub changed_here : (m : Memory) (p : Place) (v : ℕ) → changed m p v p ≡ v
changed_here m p v = rw (eqb_same p.part, eqb_same p.field, eqb_same p.row, eqb_same p.column)

pub changed_elsewhere : (m : Memory) (p : Place) (v : ℕ) (q : Place) → q ≢ p → changed m p v q ≡ m q
changed_elsewhere m p v q d =
    at (ℕ_discrete q.part p.part) (ℕ_discrete q.field p.field) (ℕ_discrete q.row p.row)
    (ℕ_discrete q.column p.column)
  where
    any : (b : Bool) → cond b (m q) (m q) ≡ m q
    any b = same_either b (m q)

    at : Dec (q.part ≡ p.part) → Dec (q.field ≡ p.field) → Dec (q.row ≡ p.row)
        → Dec (q.column ≡ p.column) → changed m p v q ≡ m q
    at (no x) b c e = rw (ne_eqb q.part p.part x)
    at (yes x) (no y) c e = rw (ne_eqb q.field p.field y) (any (eqb q.part p.part))
    at (yes x) (yes y) (no z) e =
        rw (ne_eqb q.row p.row z) (rw (any (eqb q.field p.field)) (any (eqb q.part p.part)))
    at (yes x) (yes y) (yes z) (no w) =
        rw (ne_eqb q.column p.column w)
        (rw (any (eqb q.row p.row)) (rw (any (eqb q.field p.field)) (any (eqb q.part p.part))))
    at (yes x) (yes y) (yes z) (yes w) = absurd (d (place_equal q p x y z w))

-- ---- stores one after another

pub apply_append : (m : Memory) (s t : List Store) → apply m (s ++ t) ≡ apply (apply m s) t
apply_append m [] t = refl
apply_append m (x ∷ s) t = apply_append (changed m x.place x.value) s t

-- stores to places that all pass a test leave a place alone that fails it
pub apply_apart : (test : Place → Bool) (m : Memory) (stores : List Store)
    → all (map (λ s. test s.place) stores) ≡ true → (q : Place) → test q ≡ false
    → apply m stores q ≡ m q
apply_apart test m [] e q f = refl
apply_apart test m (s ∷ l) e q f =
    let (here, rest) = both (test s.place) (all (map (λ s. test s.place) l)) (true_passes _ e) in
    apply_apart test (changed m s.place s.value) l (passed _ rest) q f
    ∙ changed_elsewhere m s.place s.value q (λ same. subst T (ap test (sym same) ∙ f) here)

-- a record copied into a row: places elsewhere, places past the record, and the record's own
module _ (at : ℕ → Place) (apart : (i j : ℕ) → at i ≡ at j → i ≡ j) where
  pub copied_elsewhere : (m : Memory) (v : Record) (i : ℕ) (q : Place) → ((j : ℕ) → q ≢ at j)
      → apply m (copied at i v) q ≡ m q
  copied_elsewhere m [] i q d = refl
  copied_elsewhere m (x ∷ v) i q d =
      copied_elsewhere (changed m (at i) x) v (suc i) q d ∙ changed_elsewhere m (at i) x q (d i)

  pub copied_past : (m : Memory) (v : Record) (i j : ℕ) → (i ≤ j → i + length v ≤ j)
      → apply m (copied at i v) (at j) ≡ m (at j)
  copied_past m [] i j d = refl
  copied_past m (x ∷ v) i j d =
      copied_past (changed m (at i) x) v (suc i) j (λ l. omega (arith, d (omega arith)))
      ∙ changed_elsewhere m (at i) x (at j) (λ e. omega (arith, apart j i e, d (omega (arith, apart j i e))))

  pub copied_here : (m : Memory) (v : Record) (i j k : ℕ) → j < length v → k ≡ i + j
      → apply m (copied at i v) (at k) ≡ get_or v j 0
  copied_here m [] i j k l e = absurd (omega arith)
  copied_here m (x ∷ v) i zero k l e =
      let same : k ≡ i = omega arith in
      copied_past (changed m (at i) x) v (suc i) k (λ z. absurd (omega arith)) ∙ rw same (changed_here m (at i) x)
  copied_here m (x ∷ v) i (suc j) k l e = copied_here (changed m (at i) x) v (suc i) j k (omega arith) (omega arith)

  pub copied_column : (m : Memory) (v : Record) (j : ℕ)
      → apply m (copied at 0 v) (at j) ≡ cond (ltb j (length v)) (get_or v j 0) (m (at j))
  copied_column m v j = go (ltb j (length v)) refl
    where
      go : (b : Bool) → ltb j (length v) ≡ b → apply m (copied at 0 v) (at j) ≡ cond b (get_or v j 0) (m (at j))
      go true e = copied_here m v 0 j j (ltb→lt j (length v) (true_passes (ltb j (length v)) e)) (omega arith)
      go false e = copied_past m v 0 j (λ l. omega (arith, nltb→le j (length v) (rw e tt)))

-- ---- the first n words of a row

abbrev pub row : ℕ → (ℕ → ℕ) → Record
row zero f = []
row (suc n) f = f zero ∷ row n (λ i. f (suc i))

pub row_same : (n : ℕ) (f g : ℕ → ℕ) → ((j : ℕ) → j < n → f j ≡ g j) → row n f ≡ row n g
row_same zero f g h = refl
row_same (suc n) f g h =
    ap₂ (λ x l. x ∷ l) (h 0 (omega arith))
    (row_same n (λ j. f (suc j)) (λ j. g (suc j)) (λ j k. h (suc j) (omega arith)))

pub row_record : (v : Record) → row (length v) (λ j. get_or v j 0) ≡ v
row_record [] = refl
row_record (x ∷ v) = ap (λ l. x ∷ l) (row_record v)

pub row_length : (n : ℕ) (f : ℕ → ℕ) → length (row n f) ≡ n
row_length zero f = refl
row_length (suc n) f = ap suc (row_length n (λ i. f (suc i)))

-- a record copied into a row is what the row holds
pub row_copied : (at : ℕ → Place) → ((i j : ℕ) → at i ≡ at j → i ≡ j) → (m : Memory) (v : Record)
    → row (length v) (λ j. apply m (copied at 0 v) (at j)) ≡ v
row_copied at apart m v =
    row_same (length v) (λ j. apply m (copied at 0 v) (at j)) (λ j. get_or v j 0)
    (λ j l. copied_here at apart m v 0 j j l (omega arith))
    ∙ row_record v
