-- Two results that meet a contract of the calls for C are equal. Assumes nothing.
use mathlib.Core.Path.{◌≡◌, sym, ◌∙◌}
use mathlib.Core.List.{List}
use Prim.Native.Nat.{ℕ}
use Rattle.register.specs.Calls.{Answer}
use Rattle.board_c.specs.declared.BoardAnswer.{BoardAnswer}
use Rattle.board_c.specs.Answers.{in_c}

-- two results that meet a contract are equal: what is returned, and every word
pub unique : (d : Answer) (x y : BoardAnswer) (a b : List ℕ) → (x, a) ≡ in_c d → (y, b) ≡ in_c d
    → (x ≡ y) × (a ≡ b)
unique d x y a b e f = (λ i. ((e ∙ sym f) i).0, λ i. ((e ∙ sym f) i).1)
