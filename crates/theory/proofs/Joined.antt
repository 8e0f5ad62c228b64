-- Tests that the code joins from the front are all of a list's tests. Assumes nothing.
use mathlib.Core.Bool.{Bool, ◌&&◌, and-true, and_assoc}
use mathlib.Core.Path.{◌≡◌, sym, ◌∙◌}
use mathlib.Core.List.{List, [], ◌∷◌}
use Rattle.theory.specs.Lists.{all}

-- a test, and those of a list, each joined to what stands before it
abbrev pub joined : Bool → List Bool → Bool
joined a [] = a
joined a (b ∷ l) = joined (a && b) l

pub joined_all : (a : Bool) (l : List Bool) → joined a l ≡ all (a ∷ l)
joined_all a [] = sym (and-true a)
joined_all a (b ∷ l) = joined_all (a && b) l ∙ and_assoc a b (all l)

-- by their number, so that a proof rewrites by them

pub three : (a b c : Bool) → a && b && c ≡ all (a ∷ b ∷ c ∷ [])
three a b c = joined_all a (b ∷ c ∷ [])

pub four : (a b c d : Bool) → a && b && c && d ≡ all (a ∷ b ∷ c ∷ d ∷ [])
four a b c d = joined_all a (b ∷ c ∷ d ∷ [])

pub five : (a b c d e : Bool) → a && b && c && d && e ≡ all (a ∷ b ∷ c ∷ d ∷ e ∷ [])
five a b c d e = joined_all a (b ∷ c ∷ d ∷ e ∷ [])

pub six : (a b c d e f : Bool) → a && b && c && d && e && f ≡ all (a ∷ b ∷ c ∷ d ∷ e ∷ f ∷ [])
six a b c d e f = joined_all a (b ∷ c ∷ d ∷ e ∷ f ∷ [])

pub nine : (a b c d e f g h i : Bool)
    → a && b && c && d && e && f && g && h && i ≡ all (a ∷ b ∷ c ∷ d ∷ e ∷ f ∷ g ∷ h ∷ i ∷ [])
nine a b c d e f g h i = joined_all a (b ∷ c ∷ d ∷ e ∷ f ∷ g ∷ h ∷ i ∷ [])
