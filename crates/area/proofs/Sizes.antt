-- An area is small, and the sums of the code's layout say where each word stands within it. Assumes nothing.
use mathlib.Core.Path.{◌≡◌, sym, ap, ◌∙◌}
use Prim.Native.Nat.{ℕ, ◌+◌, ◌*◌, ◌≤◌, ◌<◌}
use native.Mathlib.Nat.{mul-le-mul}
use native.Mathlib.Omega.{arith}
use Rattle.theory.specs.Table.{offset, width, total}
use Rattle.register.specs.Shape.{Shape, table}
use Rattle.theory.proofs.Tables.{row_within}
use Rattle.area.specs.declared.Layout.{Layout}
use Rattle.area.specs.Words.{word_at, layout_of, its_shape, Laid}

-- the words of the largest area
abbrev pub largest : ℕ
largest = 34199

pub total_small : (k : Shape) → k.n ≤ 64 → k.c ≤ 256 → total (table k) ≤ largest
total_small k h l = omega (arith, slots, desks)
  where
    slots : (k.n + 2) * width (table k) 1 ≤ 66 * 260
    slots = mul-le-mul {n₁ = k.n + 2} {m₁ = width (table k) 1} {n₂ = 66} {m₂ = 260} (omega arith) (omega arith)

    desks : k.n * width (table k) 2 ≤ 64 * 262
    desks = mul-le-mul {n₁ = k.n} {m₁ = width (table k) 2} {n₂ = 64} {m₂ = 262} h (omega arith)

-- what `Layout::new` gives
pub laid_of : {p : Layout} {k : Shape} → k.n ≤ 64 → k.c ≤ 256 → p ≡ layout_of k → Laid p
laid_of h l e =
    let readers = ap (λ q. q.n) e in
    let words = ap (λ q. q.c) e in
    record {
      few_readers = rw readers h;
      few_words = rw words l;
      exact = e ∙ sym (ap (λ q. layout_of (its_shape q)) e);
    }

-- the sum for word f of row r, where the rows of part g begin at start and are so wide: it is the word's place, within
-- the area
pub record Stands (p : Layout) (g start wide r f : ℕ) : Type 0 where
  pub is : start + (r * wide + f) ≡ word_at (table (its_shape p)) g r f
  pub within : start + (r * wide + f) < total (table (its_shape p))
  pub small : total (table (its_shape p)) ≤ largest

module _ {p : Layout} (l : Laid p) where
  -- the number of words that a layout says
  pub total_is : p.total ≡ total (table (its_shape p))
  total_is = ap (λ q. q.total) l.exact

  -- its area is small
  laid_small : total (table (its_shape p)) ≤ largest
  laid_small = total_small (its_shape p) l.few_readers l.few_words

  -- the words of a slot, of a reader's desk, of the writer's desk

  pub slot_stands : (s f : ℕ) → s < p.n + 2 → f < 4 + p.c → Stands p 1 p.slots (4 + p.c) s f
  slot_stands s f h k =
      let start = ap (λ q. q.slots) l.exact in
      record {
        is = omega arith;
        within = omega (arith, row_within (4 + p.c) (p.n + 2) s f k h);
        small = laid_small;
      }

  pub desk_stands : (r f : ℕ) → r < p.n → f < p.desk → Stands p 2 p.desks p.desk r f
  desk_stands r f h k =
      let start = ap (λ q. q.desks) l.exact in
      let wide = ap (λ q. q.desk) l.exact in
      let here : p.desks + (r * p.desk + f) ≡ word_at (table (its_shape p)) 2 r f =
      ap (λ w. p.desks + (r * w + f)) wide ∙ omega arith in
      record {
        is = here;
        within = omega (arith, here, row_within (width (table (its_shape p)) 2) p.n r f (omega (arith, wide)) h);
        small = laid_small;
      }

  pub writer_stands : (f : ℕ) → f < 7 + p.c → Stands p 3 p.writer (7 + p.c) 0 f
  writer_stands f k =
      let start = ap (λ q. q.writer) l.exact in
      record { is = omega arith; within = omega arith; small = laid_small }

-- a reader's desk has six fields of one word each
pub desk_wide : {p : Layout} → Laid p → 6 ≤ p.desk
desk_wide l = omega (arith, ap (λ q. q.desk) l.exact)

-- word j of a reader's record stands so far into the desk
pub record InDesk (p : Layout) (j : ℕ) : Type 0 where
  pub starts : p.kept ≡ offset (table (its_shape p)) 2 6
  pub small_start : p.kept ≤ 6
  pub few : j < 256
  pub fits : p.kept + j < p.desk

pub in_desk : {p : Layout} → Laid p → (j : ℕ) → j < p.c → InDesk p j
in_desk l j h =
    let start = ap (λ q. q.kept) l.exact in
    let wide = ap (λ q. q.desk) l.exact in
    record {
      starts = start;
      small_start = omega (arith, start);
      few = omega (arith, l.few_words);
      fits = omega (arith, start, wide);
    }
