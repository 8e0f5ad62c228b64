-- How many words an area has. Assumes nothing.
use Rattle.std.specs.Prelude.{cond, ◌&&◌, ℕ}
use Rattle.theory.specs.Table.{total}
use Rattle.register.specs.Shape.{Shape, table, known_form, in_range}

-- the total T, and 0 where making refuses the numbers themselves
unfoldable pub words_of : Shape → ℕ
words_of k = cond (known_form k.form && in_range k) (total (table k)) 0
