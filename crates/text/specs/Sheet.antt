-- A text that grows in lent bytes, and what it is once more is put behind it. Assumes nothing.
use Rattle.std.specs.Prelude.{◌≡◌, List, [], ◌∷◌, ℕ, zero, suc, ◌+◌, min, length}
use Rattle.text.specs.Lines.{Text}
use Rattle.text.specs.declared.Sheet as code

-- lent bytes, and the place where the text in them ends
pub record Sheet : Type 0 where
  pub bytes : List ℕ
  pub end : ℕ

-- what was lent with this text in it from a place on, as far as there is room; every other byte as it was
abbrev pub pasted : List ℕ → ℕ → Text → List ℕ
pasted [] i t = []
pasted (x ∷ l) (suc i) t = x ∷ pasted l i t
pasted (x ∷ l) zero [] = x ∷ l
pasted (x ∷ l) zero (y ∷ t) = y ∷ pasted l zero t

-- this text put behind the one that is there
unfoldable pub put : Sheet → Text → Sheet
put s t =
    record { bytes = pasted s.bytes s.end t; end = min (length s.bytes) (s.end + length t) }

abbrev pub sheet : List ℕ → ℕ → Sheet
sheet a i = record { bytes = a; end = i }

-- ---- the code's own sheet

abbrev pub as_sheet : code.Sheet → Sheet
as_sheet s = sheet s.bytes.now s.end

-- the new sheet is the old one with t put behind its text, in the same lent bytes
pub record Puts (old new : code.Sheet) (t : Text) : Type 0 where
  pub text : as_sheet new ≡ put (as_sheet old) t
  pub same_bytes : new.bytes.ghost_name ≡ old.bytes.ghost_name
