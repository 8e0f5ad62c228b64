-- Stores behind stores on a lent area. Assumes nothing.
use Rattle.std.proofs.Common.{◌≡◌, refl, ap, ◌∙◌, List, [], ◌∷◌, ◌++◌, ℕ, set}
use Rattle.register.specs.Shape.{table}
use Rattle.theory.specs.Place.{Store}
use Rattle.theory.specs.Table.{Table, address, store}
use Rattle.area.specs.Words.{words_after, its_shape}
use Rattle.area.specs.Lent.{After}
use Rattle.area.specs.declared.lent.Area.{Area}

pub store_append : (t : Table) (a : List ℕ) (k l : List Store) → store t (store t a k) l ≡ store t a (k ++ l)
store_append t a [] l = refl
store_append t a (s ∷ k) l = store_append t (set a (address t s.place) s.value) k l

pub then : {a b d : Area} (k l : List Store) → After a k b → After b l d → After a (k ++ l) d
then {a} {b} {d} k l e f =
    record {
      same = record { layout = f.same.layout ∙ e.same.layout; lent = f.same.lent ∙ e.same.lent };
      words =
          f.words ∙ ap (λ p. words_after p b.words.now l) e.same.layout
          ∙ ap (λ w. words_after a.layout w l) e.words
          ∙ store_append (table (its_shape a.layout)) a.words.now k l;
    }
