-- How many words an area has, and what making answers for that many and for others. Assumes nothing.
use mathlib.Core.Path.{◌≡◌, refl, sym, ap, ◌∙◌}
use mathlib.Core.Logic.{◌≢◌}
use mathlib.Core.Bool.{Bool, true, false, cond, ◌&&◌}
use mathlib.Core.List.{List}
use Prim.Native.Nat.{ℕ, ◌≤◌}
use native.Mathlib.Omega.{arith}
use borrow.Author.Tests.{eq-eqb, ne_eqb, le-leb}
use lib.Dec.{eqb, leb}
use lib.ListN.{length}
use Rattle.theory.specs.Place.{Record}
use Rattle.theory.specs.Table.{total}
use Rattle.register.specs.Shape.{Shape, table, known_form, in_range}
use Rattle.register.specs.Calls.{Answer, made}
use Rattle.board_c.specs.Sizes.{words_of}
use Rattle.board_c.specs.Promises.{WordsAreMade}

-- the number of one of four answers, by three tests
picked : (t s l : Bool) (w x y z : Answer)
    → (cond t (cond s (cond l w x) y) z).number
    ≡ cond t (cond s (cond l w.number x.number) y.number) z.number
picked true true true w x y z = refl
picked true true false w x y z = refl
picked true false l w x y z = refl
picked false s l w x y z = refl

-- making's three tests and the number that they pick
abbrev number_by : Bool → Bool → Bool → ℕ
number_by t s l = cond t (cond s (cond l 0 4) 10) 9

only_nine : (t s l : Bool) (k : ℕ) → number_by t s l ≡ 9 → cond t k 0 ≡ 0
only_nine true true true k h = absurd (omega (arith, h))
only_nine true true false k h = absurd (omega (arith, h))
only_nine true false l k h = absurd (omega (arith, h))
only_nine false s l k h = refl

module _ (k : Shape) (v : Record) (a : List ℕ) where
  -- the form is known, and N and C are in range; the words lent are T; the record is not too long
  abbrev taken : Bool
  taken = known_form k.form && in_range k

  abbrev sized : Bool
  sized = eqb (length a) (total (table k))

  abbrev short : Bool
  short = leb (length v) k.c

  number_is : (made k v a).number ≡ number_by taken sized short
  unfolding made
  number_is = picked taken sized short _ _ _ _

  refused : (t : Bool) → taken ≡ t → words_of k ≡ 0 → (made k v a).number ≡ 9
  unfolding words_of
  refused true e h = absurd (omega (arith, sym (ap (λ b. cond b (total (table k)) 0) e) ∙ h))
  refused false e h = number_is ∙ ap (λ b. number_by b sized short) e

  only : (made k v a).number ≡ 9 → words_of k ≡ 0
  unfolding words_of
  only h = only_nine taken sized short (total (table k)) (sym number_is ∙ h)

  -- the words are T where they are not 0
  total_is : (t : Bool) → taken ≡ t → words_of k ≢ 0
      → (taken ≡ true) × (words_of k ≡ total (table k))
  unfolding words_of
  total_is true e d = (e, ap (λ b. cond b (total (table k)) 0) e)
  total_is false e d = absurd (d (ap (λ b. cond b (total (table k)) 0) e))

  accepted : words_of k ≢ 0 → length a ≡ words_of k → length v ≤ k.c
      → (made k v a).number ≡ 0
  accepted d e h =
      let (t, w) = total_is taken refl d in
      number_is ∙ rw (t, eq-eqb (length a) (total (table k)) (e ∙ w), le-leb (length v) k.c h)

  other : words_of k ≢ 0 → length a ≢ words_of k → (made k v a).number ≡ 10
  other d e =
      let (t, w) = total_is taken refl d in
      number_is ∙ rw (t, ne_eqb (length a) (total (table k)) (λ z. e (z ∙ sym w)))

  pub words_are_made : WordsAreMade k v a
  words_are_made =
      record { refused = refused taken refl; only = only; accepted = accepted; other = other }
