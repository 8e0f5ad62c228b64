-- The fresh area that the three lots of stores make of words that are all 0. Assumes nothing.
use Rattle.std.proofs.Common.{◌≡◌, ap, ◌∙◌, List, ◌++◌, length, replicate}
use Rattle.theory.specs.Place.{Record, Store}
use Rattle.register.specs.Calls.{fresh}
use Rattle.area.specs.Words.{its_shape, words_after}
use Rattle.area.specs.Lent.{shape_at, Same, After}
use Rattle.area.specs.declared.Layout.{Layout}
use Rattle.area.specs.declared.lent.Area.{Area}
use Rattle.area.proofs.Behind.{then}
use Rattle.fresh.specs.Making.{numbers, offsets, starting}

pub filled : {a b d e f : Area} (v : Record) → Same a b → b.words.now ≡ replicate (length a.words.now) 0
    → After b (numbers (shape_at b)) d → After d (offsets (shape_at d)) e → After e (starting v) f
    → f.words.now ≡ fresh (shape_at a) v
filled {a} {b} {d} {e} {f} v s w x y z =
    (then _ _ (then _ _ x here) z).words
    ∙ ap (λ p. words_after p b.words.now (stores p)) s.layout
    ∙ ap (λ l. words_after a.layout l (stores a.layout)) (w ∙ ap (λ i. replicate i 0) a.sized.exact)
  where
    here : After d (offsets (shape_at b)) e
    here = rw (ap (λ p. offsets (its_shape p)) x.same.layout) at y

    stores : Layout → List Store
    stores p = (numbers (its_shape p) ++ offsets (its_shape p)) ++ starting v
