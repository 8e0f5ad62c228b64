-- One theory of layouts for any table of parts: addresses of different places differ, and stores to a list of words
-- are stores to its memory.
--     rows_apart, row_within              rows of one width
--     single_words, single_offset         fields of one word each
--     Has, has_it, AllHas                 a place that the area has; stores to such places alone
--     base_grows, address_within          parts follow one another, and a place that the area has stands inside it
--     addresses_apart                     two places at one address are one
--     view_here                           what the memory holds is the word at the address
--     view_store                          stores to the words are stores to the memory
--     length_store, store_untouched       stores keep the length, and a word that none is to
--     words_row                           a part of a list of words, word by word
-- Assumes nothing.
use mathlib.Core.Path.{◌≡◌, refl, sym, ap, ap₂, subst, ◌∙◌, fun_ext}
use mathlib.Core.Logic.{◌≢◌}
use mathlib.Core.Bool.{Bool, true, false, cond, ◌&&◌}
use mathlib.Core.List.{List, [], ◌∷◌}
use Prim.Native.Nat.{ℕ, zero, suc, ◌+◌, ◌*◌, ◌≤◌, ◌<◌}
use native.Mathlib.Nat.{mul-le-mul_right}
use native.Mathlib.Decide.{ℕ_discrete, dec_lt}
use native.Mathlib.Omega.{arith}
use lib.Dec.{T, ltb, ltb→lt}
use lib.ListN.{length, get_or, set, length-set, take}
use lib.Seq.{get_or-set_same, get_or-set_other, drop-cons}
use borrow.Author.Tests.{lt-ltb}
use Rattle.theory.specs.Place.{Place, changed, Store, apply}
use Rattle.theory.specs.Table.{Table, field_at, words, offset, width, base, total, address, has, view, store}
use Rattle.theory.specs.Table.{Untouched}
use Rattle.theory.specs.Lists.{words_from, Each, also}
use Rattle.theory.proofs.Tests.{both, true_passes}
use Rattle.theory.proofs.Places.{place_equal, place_discrete, changed_here, changed_elsewhere, row, row_same}

-- ---- rows of one width

pub rows_apart : (w r s k l : ℕ) → k < w → l < w → r * w + k ≡ s * w + l → (r ≡ s) × (k ≡ l)
rows_apart w r s k l h g e = go (dec_lt r s) (dec_lt s r)
  where
    go : Dec (r < s) → Dec (s < r) → (r ≡ s) × (k ≡ l)
    go (yes x) d = absurd (omega (arith, mul-le-mul_right w x))
    go (no d) (yes x) = absurd (omega (arith, mul-le-mul_right w x))
    go (no d) (no f) = let x : r ≡ s = omega arith in (x, omega (arith, ap (λ y. y * w) x))

pub row_within : (w n r k : ℕ) → k < w → r < n → r * w + k < n * w
row_within w n r k h l = omega (arith, mul-le-mul_right w l)

-- a field that has a word is one of the row's
field_there : (l : List ℕ) (f : ℕ) {j : ℕ} → j < get_or l f 0 → f < length l
field_there [] f h = absurd (omega arith)
field_there (w ∷ l) zero h = omega arith
field_there (w ∷ l) (suc f) h = omega (arith, field_there l f h)

-- fields stand one behind another
next_field : (i : ℕ) (l : List ℕ) (f : ℕ) → field_at i l f + get_or l f 0 ≡ field_at i l (suc f)
next_field i [] zero = omega arith
next_field i [] (suc f) = omega arith
next_field i (w ∷ l) zero = refl
next_field i (w ∷ l) (suc f) = next_field (i + w) l f

fields_grow : (i : ℕ) (l : List ℕ) (f h : ℕ) → f ≤ h → field_at i l f ≤ field_at i l h
fields_grow i l f zero k = let e : f ≡ 0 = omega arith in rw e (omega arith)
fields_grow i l f (suc h) k = go (fields_grow i l f h) (ℕ_discrete f (suc h))
  where
    go : (f ≤ h → field_at i l f ≤ field_at i l h) → Dec (f ≡ suc h)
        → field_at i l f ≤ field_at i l (suc h)
    go rest (yes e) = rw e (omega arith)
    go rest (no d) = omega (arith, rest (omega arith), next_field i l h)

-- ---- fields of one word each, in front of any others

abbrev singles : ℕ → List ℕ → List ℕ
singles zero l = l
singles (suc j) l = 1 ∷ singles j l

single_at : (i j : ℕ) (l : List ℕ) (f : ℕ) → f ≤ j → field_at i (singles j l) f ≡ i + f
single_at i j l zero h = omega arith
single_at i zero l (suc f) h = absurd (omega arith)
single_at i (suc j) l (suc f) h = omega (arith, single_at (i + 1) j l f (omega arith))

single_word : (j f : ℕ) (l : List ℕ) → f < j → get_or (singles j l) f 0 ≡ 1
single_word zero f l h = absurd (omega arith)
single_word (suc j) zero l h = refl
single_word (suc j) (suc f) l h = single_word j f l (omega arith)

module _ (t : Table) where
  pub single_words : (g j : ℕ) (l : List ℕ) → t.fields g ≡ singles j l → (f : ℕ) → f < j
      → words t g f ≡ 1
  single_words g j l e f h = ap (λ k. get_or k f 0) e ∙ single_word j f l h

  pub single_offset : (g j : ℕ) (l : List ℕ) → t.fields g ≡ singles j l → (f : ℕ) → f ≤ j
      → offset t g f ≡ f
  single_offset g j l e f h = omega (arith, ap (λ k. field_at 0 k f) e, single_at 0 j l f h)

  -- ---- fields of a row

  -- a field ends by where a later one stands
  offset_grows : (g f k : ℕ) → f < k → offset t g f + words t g f ≤ offset t g k
  offset_grows g f k l =
      omega (arith, next_field 0 (t.fields g) f, fields_grow 0 (t.fields g) (suc f) k l)

  -- two words of one row
  fields_apart : (g f h i j : ℕ) → i < words t g f → j < words t g h
      → offset t g f + i ≡ offset t g h + j → (f ≡ h) × (i ≡ j)
  fields_apart g f h i j l k e = go (dec_lt f h) (dec_lt h f)
    where
      go : Dec (f < h) → Dec (h < f) → (f ≡ h) × (i ≡ j)
      go (yes x) d = absurd (omega (arith, offset_grows g f h x))
      go (no d) (yes x) = absurd (omega (arith, offset_grows g h f x))
      go (no d) (no x) = let y : f ≡ h = omega arith in (y, omega (arith, ap (offset t g) y))

  -- ---- places that the area has

  pub record Has (p : Place) : Type 0 where
    pub part : p.part < t.parts
    pub row : p.row < t.rows p.part
    pub column : p.column < words t p.part p.field

  has_of : (p : Place) → T (has t p) → Has p
  has_of p u =
      let (v, z) = both (ltb p.part t.parts && ltb p.row (t.rows p.part)) _ u in
      let (x, y) = both (ltb p.part t.parts) _ v in
      record { part = ltb→lt _ _ x; row = ltb→lt _ _ y; column = ltb→lt _ _ z }

  pub has_it : (p : Place) → Has p → has t p ≡ true
  has_it p h = rw (lt-ltb _ _ h.part, lt-ltb _ _ h.row, lt-ltb _ _ h.column)

  -- ---- addresses

  -- where a place stands in its row
  abbrev in_row : ℕ → Place → ℕ
  in_row g p = offset t g p.field + p.column

  inside : (p : Place) → Has p → in_row p.part p < width t p.part
  inside p h =
      let there = field_there (t.fields p.part) p.field h.column in
      omega (arith, h.column, offset_grows p.part p.field (length (t.fields p.part)) there)

  pub base_grows : (g k : ℕ) → g ≤ k → base t g ≤ base t k
  base_grows g zero l = let e : g ≡ 0 = omega arith in rw e (omega arith)
  base_grows g (suc k) l = go (λ x. base_grows g k x) (ℕ_discrete g (suc k))
    where
      go : (g ≤ k → base t g ≤ base t k) → Dec (g ≡ suc k) → base t g ≤ base t k + t.rows k * width t k
      go rest (yes e) = rw e (omega arith)
      go rest (no d) = omega (arith, rest (omega arith))

  below_next : (p : Place) → Has p → address t p < base t (suc p.part)
  below_next p h =
      let k = in_row p.part p in
      omega (arith, row_within (width t p.part) (t.rows p.part) p.row k (inside p h) h.row)

  pub address_within : (p : Place) → Has p → address t p < total t
  address_within p h = omega (arith, below_next p h, base_grows (suc p.part) t.parts h.part)

  pub addresses_apart : (p q : Place) → Has p → Has q → address t p ≡ address t q → p ≡ q
  addresses_apart p q h k e = go (dec_lt p.part q.part) (dec_lt q.part p.part)
    where
      go : Dec (p.part < q.part) → Dec (q.part < p.part) → p ≡ q
      go (yes l) d = absurd (omega (arith, below_next p h, base_grows (suc p.part) q.part l))
      go (no d) (yes l) = absurd (omega (arith, below_next q k, base_grows (suc q.part) p.part l))
      go (no d) (no f) =
          row
          (rows_apart (width t p.part) p.row q.row (in_row p.part p) (in_row p.part q) (inside p h)
          (rw part (inside q k)) level)
        where
          part : p.part ≡ q.part
          part = omega arith

          at_part : ℕ → Type 0
          at_part g = address t p ≡ base t g + (q.row * width t g + in_row g q)

          level : p.row * width t p.part + in_row p.part p ≡ q.row * width t p.part + in_row p.part q
          level = omega (arith, subst at_part (sym part) e)

          row : (p.row ≡ q.row) × (in_row p.part p ≡ in_row p.part q) → p ≡ q
          row (r, x) =
              let (f, c) =
              fields_apart p.part p.field q.field p.column q.column h.column
              (rw part k.column) x in
              place_equal p q part f r c

  -- ---- words and memories

  pub view_here : (a : List ℕ) (p : Place) → Has p → view t a p ≡ get_or a (address t p) 0
  view_here a p h = ap (λ b. cond b (get_or a (address t p) 0) 0) (has_it p h)

  -- every store is to a place that the area has
  abbrev pub AllHas : List Store → Type 0
  AllHas = Each (λ s. Has s.place)

  view_set : (a : List ℕ) (p : Place) (x : ℕ) → length a ≡ total t → Has p → (q : Place)
      → view t (set a (address t p) x) q ≡ changed (view t a) p x q
  view_set a p x l h q = go (place_discrete q p)
    where
      other : (b : Bool) → has t q ≡ b → q ≢ p
          → cond b (get_or (set a (address t p) x) (address t q) 0) 0 ≡ cond b (get_or a (address t q) 0) 0
      other true e d =
          get_or-set_other a (address t p) (address t q) x 0
          (λ y. d (addresses_apart q p (has_of q (true_passes _ e)) h y))
      other false e d = refl

      here : view t (set a (address t p) x) p ≡ x
      here = view_here (set a (address t p) x) p h
          ∙ get_or-set_same a (address t p) x 0 (omega (arith, address_within p h))

      go : Dec (q ≡ p) → view t (set a (address t p) x) q ≡ changed (view t a) p x q
      go (yes e) = rw e (here ∙ sym (changed_here (view t a) p x))
      go (no d) = other (has t q) refl d ∙ sym (changed_elsewhere (view t a) p x q d)

  -- stores to the words are stores to the memory
  pub view_store : (a : List ℕ) (l : List Store) → length a ≡ total t → AllHas l
      → view t (store t a l) ≡ apply (view t a) l
  view_store a [] e v = refl
  view_store a (s ∷ l) e (also h v) =
      view_store (set a (address t s.place) s.value) l (length-set a (address t s.place) s.value ∙ e) v
      ∙ ap (λ m. apply m l) (fun_ext (view_set a s.place s.value e h))

  pub length_store : (a : List ℕ) (l : List Store) → length (store t a l) ≡ length a
  length_store a [] = refl
  length_store a (s ∷ l) =
      length_store (set a (address t s.place) s.value) l ∙ length-set a (address t s.place) s.value

  pub store_untouched : (a : List ℕ) (l : List Store) (i : ℕ) → Untouched t i l
      → get_or (store t a l) i 0 ≡ get_or a i 0
  store_untouched a [] i v = refl
  store_untouched a (s ∷ l) i (also d v) =
      store_untouched (set a (address t s.place) s.value) l i v
      ∙ get_or-set_other a (address t s.place) i s.value 0 (λ e. d (sym e))

-- a part of a list of words, word by word
pub words_row : (a : List ℕ) (i k : ℕ) → i + k ≤ length a
    → words_from a i k ≡ row k (λ j. get_or a (i + j) 0)
words_row a i zero h = refl
words_row a i (suc k) h =
    ap (take (suc k)) (drop-cons a i 0 (omega arith))
    ∙ ap (λ l. get_or a i 0 ∷ l) (words_row a (suc i) k (omega arith))
    ∙ ap₂ (λ x l. x ∷ l) (ap (λ j. get_or a j 0) first)
    (row_same k (λ j. get_or a (suc i + j) 0) (λ j. get_or a (i + suc j) 0) (λ j l. ap (λ x. get_or a x 0) (rest j)))
  where
    first : i ≡ i + 0
    first = omega arith

    rest : (j : ℕ) → suc i + j ≡ i + suc j
    rest j = omega arith
