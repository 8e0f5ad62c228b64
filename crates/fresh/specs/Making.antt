-- What the test of making gives, and its stores in the three lots in which the code makes them. Assumes nothing.
use Rattle.std.specs.Prelude.{cond, ◌&&◌, List, [], ◌∷◌, ℕ, eqb, leb, length, Result, Ok, Err}
use Rattle.theory.specs.Place.{Record, Store, ◌≔◌, copied}
use Rattle.theory.specs.Table.{total}
use Rattle.register.specs.Area.{header, current, size, contents}
use Rattle.register.specs.Shape.{Shape, table, slots_at, desks_at, writer_at, known_form, in_range}
use Rattle.area.specs.declared.Layout.{Layout}
use Rattle.area.specs.Words.{layout_of}
use Rattle.answer.specs.declared.refusals.Refusal.{Refusal}
use Rattle.answer.specs.declared.refusals.Refusal.TheVariants.{OutOfRange, AnotherLength, TooLong}

-- for as many words lent and a record of a length: the layout of what is made, or the first test that fails
unfoldable pub making_result : Shape → ℕ → ℕ → Result Layout Refusal
making_result k words length =
    cond (known_form k.form && in_range k)
    (cond (eqb words (total (table k))) (cond (leb length k.c) (Ok (layout_of k)) (Err TooLong)) (Err AnotherLength))
    (Err OutOfRange)

-- words 0 to 3: the form, N, C and the total
abbrev pub numbers : Shape → List Store
numbers k = header 0 ≔ k.form ∷ header 1 ≔ k.n ∷ header 2 ≔ k.c ∷ header 3 ≔ total (table k) ∷ []

-- words 4 to 7: where the parts begin, and the current word, by which every reader is counted in slot 0
abbrev pub offsets : Shape → List Store
offsets k = header 4 ≔ slots_at k ∷ header 5 ≔ desks_at k ∷ header 6 ≔ writer_at k ∷ current ≔ k.n ∷ []

-- the starting record in slot 0
abbrev pub starting : Record → List Store
starting v = size 0 ≔ length v ∷ copied (contents 0) 0 v
