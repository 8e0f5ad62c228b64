-- The layout that an area names fits it, and test 2 over that layout is test 2. Assumes nothing.
use mathlib.Core.Bool.{Bool, true, false, ◌&&◌, cond}
use mathlib.Core.Path.{◌≡◌, refl, sym, ap, ◌∙◌}
use mathlib.Core.List.{List}
use Prim.Native.Nat.{ℕ}
use Rattle.std.specs.Prelude.{Some, None}
use lib.Dec.{eqb}
use lib.ListN.{length, get_or}
use Rattle.theory.specs.Table.{total}
use Rattle.register.specs.Shape.{table}
use Rattle.register.specs.Area.{shape_of, is_area, memory_tests, undamaged}
use Rattle.theory.specs.Lists.{all}
use Rattle.theory.proofs.Joined.{five}
use Rattle.register.proofs.Facts.{area_facts}
use Rattle.area.specs.declared.Layout.{Layout}
use Rattle.area.specs.Words.{its_shape, layout_of, Sized, memory_of}
use Rattle.area.proofs.Sizes.{laid_of}
use Rattle.testing.specs.Test.{fit_tests, named}

-- the tests by the layout, as the code joins them
pub fit_joined : (p : Layout) (a : List ℕ)
    → eqb (get_or a 3 0) p.total && eqb (get_or a 4 0) p.slots && eqb (get_or a 5 0) p.desks
    && eqb (get_or a 6 0) p.writer && eqb (length a) p.total
    ≡ all (fit_tests p a)
fit_joined p a =
    five (eqb (get_or a 3 0) p.total) (eqb (get_or a 4 0) p.slots) (eqb (get_or a 5 0) p.desks)
    (eqb (get_or a 6 0) p.writer) (eqb (length a) p.total)

module _ (a : List ℕ) (p : Layout) (e : p ≡ layout_of (shape_of a)) where
  -- an area has the words that its layout says
  pub sized : is_area a ≡ true → Sized p a
  sized h =
      let facts = area_facts a h in
      record {
        laid = laid_of facts.range.few_readers facts.range.few_words e;
        exact = facts.exact ∙ ap (λ q. total (table (its_shape q))) (sym e);
      }

  -- test 2 over the layout is test 2
  pub undamaged_is : all (memory_tests (its_shape p) (memory_of p a)) ≡ undamaged a
  unfolding undamaged
  undamaged_is = ap (λ q. all (memory_tests (its_shape q) (memory_of q a))) e

-- the layout that words name fits them
pub named_fits : (a : List ℕ) {p : Layout} → Some p ≡ named a → Sized p a
named_fits a {p} = go (is_area a) refl
  where
    go : (b : Bool) → is_area a ≡ b → Some p ≡ cond b (Some (layout_of (shape_of a))) None → Sized p a
    go true e h = let l : p ≡ layout_of (shape_of a) = cc in sized a p l e
    go false e h = absurd cc
