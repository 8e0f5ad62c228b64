-- Lines of text as bytes: fields in decimal, one blank between fields, a newline after each line. Assumes nothing.
use Rattle.std.specs.Prelude.{Bool, true, false, cond, ◌&&◌, eqb, ltb, List, [], ◌∷◌, ◌++◌}
use Rattle.std.specs.Prelude.{ℕ, zero, suc, ◌+◌, ◌/◌, ◌%◌}

-- bytes of ASCII
abbrev pub Text : Type 0
Text = List ℕ

abbrev pub blank : ℕ
blank = 32

abbrev pub newline : ℕ
newline = 10

-- the last k digits of a number or, where fewer do, those, the most significant first; 48 is '0'
abbrev pub digits_within : ℕ → ℕ → Text
digits_within zero n = []
digits_within (suc k) n = cond (ltb n 10) [] (digits_within k (n / 10)) ++ ((48 + n % 10) ∷ [])

-- a 64-bit word has at most 20
unfoldable pub decimal : ℕ → Text
decimal n = digits_within 20 n

-- each field behind a blank
abbrev pub behind_blanks : List Text → Text
behind_blanks [] = []
behind_blanks (t ∷ l) = blank ∷ t ++ behind_blanks l

abbrev pub line : Text → List Text → Text
line t l = t ++ behind_blanks l ++ (newline ∷ [])

-- ---- comparing

-- as many bytes, and each the same
abbrev pub same_text : Text → Text → Bool
same_text [] [] = true
same_text [] (y ∷ u) = false
same_text (x ∷ t) [] = false
same_text (x ∷ t) (y ∷ u) = eqb x y && same_text t u
