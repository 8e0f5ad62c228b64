-- The law of a record that is copied into a row of a lent area, word by word. Assumes nothing.
--     copying_more     one word more
--     row_within       the places are the area's
use Rattle.std.proofs.Common.{◌≡◌, ap, [], ◌∷◌, ◌++◌, ℕ, suc, ◌+◌, ◌<◌, arith, length}
use Rattle.std.proofs.Common.{take, get_or}
use Rattle.std.proofs.lemmas.List.{take_more, length-take-le}
use Rattle.theory.specs.Place.{Record, Place, ◌≔◌, copied}
use Rattle.area.specs.Lent.{After}
use Rattle.area.specs.declared.lent.Area.{Area}
use Rattle.area.specs.declared.Layout.{Layout}
use Rattle.area.specs.declared.places.Row.{Row}
use Rattle.area.specs.declared.places.Row.TheVariants as rows
use Rattle.area.specs.Places.{place_in, Within, RowWithin}
use Rattle.area.proofs.Behind.{then}

-- the stores of a record and one word more
copied_more : (at : ℕ → Place) (i k : ℕ) (v : Record) (x : ℕ) → k ≡ i + length v
    → copied at i (v ++ x ∷ []) ≡ copied at i v ++ at k ≔ x ∷ []
copied_more at i k [] x e = ap (λ j. at j ≔ x ∷ []) (omega arith)
copied_more at i k (y ∷ v) x e = ap (λ l. at i ≔ y ∷ l) (copied_more at (suc i) k v x (omega arith))

module _ (at : ℕ → Place) (v : Record) (a : Area) where
  -- the first i words of v are copied into the row
  abbrev pub Copying : Area → ℕ → Type 0
  Copying b i = After a (copied at 0 (take i v)) b

  module _ {b : Area} {i : ℕ} (x : Copying b i) where
    pub copying_more : {d : Area} → i < length v → After b (at i ≔ get_or v i 0 ∷ []) d → Copying d (i + 1)
    copying_more h e =
        rw (
          take_more v i 0 h,
          copied_more at 0 i (take i v) (get_or v i 0) (rw (length-take-le i v (omega arith)) (omega arith)),
        )
        (then (copied at 0 (take i v)) (at i ≔ get_or v i 0 ∷ []) x e)

-- a place of a row that an area has
pub row_within : (p : Layout) (r : Row) (j : ℕ) → RowWithin p r → j < p.c → Within p (place_in r j)
row_within p (rows.Contents s) j h l = (h, l)
row_within p rows.WriteRecord j h l = l
