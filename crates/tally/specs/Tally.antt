-- The tally of a run: accepted moves, refused moves, greatest age. Assumes nothing.
use Rattle.std.specs.Prelude.{cond, ℕ, ◌+◌, ◌<◌, max, eqb}
use Rattle.tally.specs.declared.Tally as code

pub record Tally : Type 0 where
  pub accepted : ℕ
  pub refusals : ℕ
  pub greatest : ℕ

abbrev pub no_tally : Tally
no_tally = record { accepted = 0; refusals = 0; greatest = 0 }

-- one more move, answered with this number and age
unfoldable pub counted : Tally → ℕ → ℕ → Tally
counted t number age =
    cond (eqb number 0)
    (record { accepted = t.accepted + 1; refusals = t.refusals; greatest = max t.greatest age })
    (record { accepted = t.accepted; refusals = t.refusals + 1; greatest = t.greatest })

-- ---- the code's own tally

abbrev pub as_tally : code.Tally → Tally
as_tally t = record { accepted = t.accepted; refusals = t.refusals; greatest = t.greatest }

-- one more move can be counted, accepted or refused: both counts are below 2^64 − 1
pub record Room (t : code.Tally) : Type 0 where
  pub accepted : t.accepted < 18446744073709551615
  pub refusals : t.refusals < 18446744073709551615
