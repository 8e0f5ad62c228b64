-- How many words and bytes are enough for any run file. Assumes nothing.
use Rattle.std.specs.Prelude.{ℕ}
use Rattle.theory.specs.Table.{total}
use Rattle.register.specs.Shape.{shape, table}

-- the words of the largest area of a run: N 8, C 32
abbrev pub area_words : ℕ
area_words = total (table (shape 1 8 32))

-- so many bytes hold the text of any file
abbrev pub text_bytes : ℕ
text_bytes = 290000
