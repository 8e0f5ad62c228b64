-- Making by what its test gives. Assumes nothing.
use mathlib.Core.Path.{◌≡◌, refl, sym, ap, ◌∙◌}
use mathlib.Core.Bool.{Bool, true, false, cond, ◌&&◌}
use mathlib.Core.List.{List}
use Prim.Native.Nat.{ℕ, ◌≤◌}
use lib.Dec.{eqb, leb, eqb→eq, leb→le}
use lib.ListN.{length}
use Rattle.std.specs.Prelude.{Result, Ok, Err}
use Rattle.theory.specs.Place.{Record}
use Rattle.theory.specs.Table.{total}
use Rattle.theory.proofs.Tests.{true_passes}
use Rattle.register.specs.Shape.{Shape, table, known_form, in_range}
use Rattle.register.specs.Calls.{refused, fresh, made}
use Rattle.area.specs.Words.{layout_of, Sized, its_shape}
use Rattle.area.specs.declared.Layout.{Layout}
use Rattle.area.proofs.Sizes.{laid_of}
use Rattle.area.proofs.Taken.{passed_taken}
use Rattle.answer.specs.declared.refusals.Refusal.{Refusal}
use Rattle.answer.specs.declared.refusals.Refusal.TheVariants.{OutOfRange, AnotherLength, TooLong}
use Rattle.answer.specs.Refusals.{number_of}
use Rattle.fresh.specs.Making.{making_result}

-- what making takes: the words that are filled, the record that goes in, and the answer
pub record Takes (k : Shape) (v : Record) (a : List ℕ) (p : Layout) : Type 0 where
  pub layout : p ≡ layout_of k
  pub sized : Sized p a
  pub short : length v ≤ p.c
  pub accepted : made k v a ≡ record { number = 0; ended = false; age = 0; area = fresh k v }

module _ (k : Shape) (v : Record) (a : List ℕ) where
  abbrev result_by : Bool → Bool → Bool → Result Layout Refusal
  result_by t s l = cond t (cond s (cond l (Ok (layout_of k)) (Err TooLong)) (Err AnotherLength)) (Err OutOfRange)

  pub takes : {p : Layout} → Ok p ≡ making_result k (length a) (length v) → Takes k v a p
  unfolding making_result made
  takes {p} =
      go (known_form k.form && in_range k) refl (eqb (length a) (total (table k))) refl (leb (length v) k.c) refl
    where
      go : (t : Bool) → known_form k.form && in_range k ≡ t
          → (s : Bool) → eqb (length a) (total (table k)) ≡ s
          → (l : Bool) → leb (length v) k.c ≡ l → Ok p ≡ result_by t s l → Takes k v a p
      go true e true f true g h =
          let here : p ≡ layout_of k = cc in
          let taken = passed_taken e in
          let many : length a ≡ total (table k) = eqb→eq _ _ (true_passes _ f) in
          record {
            layout = here;
            sized =
                record {
                  laid = laid_of taken.few_readers taken.few_words here;
                  exact = many ∙ ap (λ q. total (table (its_shape q))) (sym here);
                };
            short = rw (ap (λ q. q.c) here) (leb→le _ _ (true_passes _ g));
            accepted = rw (e, f, g) refl;
          }
      go true e true f false g h = absurd cc
      go true e false f l g h = absurd cc
      go false e s f l g h = absurd cc

  pub refuses : {x : Refusal} → Err x ≡ making_result k (length a) (length v)
      → made k v a ≡ refused (number_of x) a
  unfolding making_result made
  refuses {x} =
      go (known_form k.form && in_range k) refl (eqb (length a) (total (table k))) refl (leb (length v) k.c) refl
    where
      go : (t : Bool) → known_form k.form && in_range k ≡ t
          → (s : Bool) → eqb (length a) (total (table k)) ≡ s
          → (l : Bool) → leb (length v) k.c ≡ l → Err x ≡ result_by t s l
          → made k v a ≡ refused (number_of x) a
      go true e true f true g h = absurd cc
      go true e true f false g h = let n : x ≡ TooLong = cc in rw (e, f, g, n) refl
      go true e false f l g h = let n : x ≡ AnotherLength = cc in rw (e, f, n) refl
      go false e s f l g h = let n : x ≡ OutOfRange = cc in rw (e, n) refl
