-- The line of a move from the pieces that the code puts one behind another. Assumes nothing.
use mathlib.Core.Path.{◌≡◌, refl}
use mathlib.Core.Bool.{Bool, true, false}
use mathlib.Core.List.{List, [], ◌∷◌, ◌++◌, append_assoc, append-nil}
use Rattle.std.proofs.Common.{arith}
use Rattle.std.specs.Int.{from_bool}
use Rattle.text.specs.Lines.{Text, blank, newline, behind_blanks, line}
use Rattle.lines.specs.OneLine.{one_if}

pub five_pieces : (i p k m f : Text) (r : List Text)
    → i ++ (blank ∷ p) ++ (blank ∷ k) ++ behind_blanks (m ∷ f ∷ []) ++ behind_blanks r ++ (newline ∷ [])
    ≡ line i (p ∷ k ∷ m ∷ f ∷ r)
five_pieces i p k m f r = grind (arith, append_assoc, append-nil)

pub one_if_so : (so : Bool) → from_bool so ≡ one_if so
one_if_so true = refl
one_if_so false = refl
