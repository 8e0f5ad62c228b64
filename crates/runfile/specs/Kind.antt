-- The kinds of a move and their numbers. Assumes nothing.
use Rattle.std.specs.Prelude.{◌≡◌, ℕ, ◌<◌, Result, MatchResult}
use Rattle.runfile.specs.declared.kind.Kind.{Kind}
use Rattle.runfile.specs.declared.kind.Kind.TheVariants.{Begin, Step}
use Rattle.runfile.specs.declared.kind.UnknownKind.{UnknownKind}

-- the number that stands for a kind
abbrev pub number_of : Kind → ℕ
number_of Begin = 0
number_of Step = 1

-- the kind with this number, or an error with a number that no kind has
abbrev pub Decodes : ℕ → Result Kind UnknownKind → Type 0
Decodes number r = MatchResult r (λ kind. number_of kind ≡ number) (λ e. (e.0 ≡ number) × (1 < number))
