-- Document 01's table "Given exactly when" and its orders: a call answers k exactly when the condition of k holds and
-- none that comes before it. One row for each number and call, on any words, any process and any record.
-- Assumes nothing.
use Rattle.std.specs.Prelude.{◌≡◌, ◌≢◌, ◌⊎◌, ◌↔◌, true, List, [], ◌∷◌, ℕ, ◌+◌, ◌%◌, ◌≤◌, ◌<◌, length}
use Rattle.theory.specs.Place.{Record}
use Rattle.register.specs.Area.{current, r_start, r_end, phase, last, finished, writer_phase, last_slot}
use Rattle.register.specs.Area.{in_hand, writes_ended, memory}
use Rattle.register.specs.Shape.{Shape}
use Rattle.register.specs.Conditions.{KnownForm, InRange, T_of, most_counted, word, said, AnArea, Undamaged}
use Rattle.register.specs.Calls.{made, read_begun, write_begun, stepped, is_own}

-- ---- rows

-- a number, and when it is given
pub record Row : Type 1 where
  pub number : ℕ
  pub when : Type 0

abbrev pub ◌if◌ : ℕ → Type 0 → Row
k if w = record { number = k; when = w }

infix 68 ◌if◌
-- k is the number of the first row whose condition holds, and 0 if none does
pub data Given : List Row → ℕ → Type 1 where
  by_none : {k : ℕ} → k ≡ 0 → Given [] k
  by_first : {x : Row} {l : List Row} {k : ℕ} → x.when → k ≡ x.number → Given (x ∷ l) k
  by_later : {x : Row} {l : List Row} {k : ℕ} → ¬ x.when → Given l k → Given (x ∷ l) k

-- ---- making: 9, 10, 4

abbrev pub make_rows : Shape → Record → List ℕ → List Row
make_rows k v a =
    9 if ((¬ KnownForm k.form) ⊎ (¬ InRange k))
    ∷ 10 if (length a ≢ T_of k)
    ∷ 4 if (k.c < length v)
    ∷ []

module _ (a : List ℕ) where
  abbrev n : ℕ
  n = word a 1

  abbrev c : ℕ
  c = word a 2

  abbrev most : ℕ
  most = most_counted (said a)

  -- ---- a begin of a read: 1, 2, 3, 5

  abbrev pub read_rows : ℕ → List Row
  read_rows r =
      1 if (¬ AnArea a)
      ∷ 2 if (¬ Undamaged a)
      ∷ 3 if (n ≤ r)
      ∷ 5 if (memory a (phase r) ≢ 0)
      ∷ []

  -- ---- a begin of a write: 1, 2, 4, 5, 7. No 64-bit word is above 2^64 − 1

  abbrev pub write_rows : Record → List Row
  write_rows v =
      1 if (¬ AnArea a)
      ∷ 2 if (¬ Undamaged a)
      ∷ 4 if (c < length v)
      ∷ 5 if (memory a writer_phase ≢ 0)
      ∷ 7 if (18446744073709551615 ≤ memory a writes_ended)
      ∷ []

  -- ---- a step: 1, 2 (area), 3, 6, then 8 or 2 (counter)

  -- the process is in phase 0
  pub data Idle : ℕ → Type 0 where
    reader : {r : ℕ} → r < n → memory a (phase r) ≡ 0 → Idle r
    writer : {p : ℕ} → p ≡ n → memory a writer_phase ≡ 0 → Idle p

  -- the writer looks at slot N + 1, and it isn't free: it is last slot, or its r_start differs from its r_end
  pub record LastNotFree (p : ℕ) : Type 0 where
    pub writer : p ≡ n
    pub looks : memory a writer_phase ≡ 1
    pub at_the_end : memory a in_hand ≡ n + 1
    pub taken : (memory a in_hand ≡ memory a last_slot)
        ⊎ (memory a (r_start (memory a in_hand)) ≢ memory a (r_end (memory a in_hand)))

  -- the step would lift r_end (reader step 2) or the counter of current (reader step 3) above N
  pub data Overfull : ℕ → Type 0 where
    gone : {r : ℕ} → r < n → memory a (phase r) ≡ 2 → most < memory a (r_end (memory a (last r))) + 1
        → Overfull r
    bound : {r : ℕ} → r < n → memory a (phase r) ≡ 3 → most < memory a current % 4294967296 + 1 → Overfull r

  abbrev pub step_rows : ℕ → List Row
  step_rows p =
      1 if (¬ AnArea a)
      ∷ 2 if (¬ Undamaged a)
      ∷ 3 if (n < p)
      ∷ 6 if Idle p
      ∷ 8 if LastNotFree p
      ∷ 2 if Overfull p
      ∷ []

  -- ---- showing: whether it is the reader's. No number

  -- the area is undamaged, the reader exists, is idle and has finished
  pub record OwnToShow (r : ℕ) : Type 0 where
    pub area : AnArea a
    pub undamaged : Undamaged a
    pub exists : r < n
    pub idle : memory a (phase r) ≡ 0
    pub has_finished : memory a (finished r) ≡ 1

-- ---- the promise

pub record Numbers : Type 1 where
  pub making : (k : Shape) (v : Record) (a : List ℕ) (i : ℕ)
      → ((made k v a).number ≡ i) ↔ Given (make_rows k v a) i
  pub reads : (a : List ℕ) (r k : ℕ) → ((read_begun a r).number ≡ k) ↔ Given (read_rows a r) k
  pub writes : (a : List ℕ) (v : Record) (k : ℕ) → ((write_begun a v).number ≡ k) ↔ Given (write_rows a v) k
  pub steps : (a : List ℕ) (p k : ℕ) → ((stepped a p).number ≡ k) ↔ Given (step_rows a p) k
  pub shows : (a : List ℕ) (r : ℕ) → (is_own a r ≡ true) ↔ OwnToShow a r
