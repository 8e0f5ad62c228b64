-- Document 01's numbers of run files: which number the begin of a run and each move of it are answered, exactly when,
-- by the rows of `register`. Assumes nothing.
use Rattle.std.specs.Prelude.{◌≡◌, ◌↔◌, cond, List, ◌∷◌, ℕ, ◌+◌, ◌*◌, ◌<◌, eqb}
use Rattle.register.specs.Numbers.{Row, ◌if◌, Given, make_rows, read_rows, write_rows, step_rows}
use Rattle.runfile.specs.Bytes.{words_at}
use Rattle.runfile.specs.RunFile.{readers, values, values_at, starting_record, Written}
use Rattle.runfile.specs.Conditions.{FileFacts, Malformed}
use Rattle.playing.specs.Play.{State, run_shape, begun, played}

-- the begin of a run: 11, then making's own
abbrev pub begin_rows : List ℕ → List ℕ → List Row
begin_rows b a = 11 if (¬ FileFacts b) ∷ make_rows (run_shape b) (starting_record b) a

module _ (b : List ℕ) (s : State) (w : Written) where
  -- a begin of process N that wants more values than are left
  pub record TooMany : Type 0 where
    pub begins : w.kind ≡ 0
    pub writer : w.process ≡ readers b
    pub more : values b < s.used + w.len

  -- the rows of the call that a move comes to: a step, a begin of a write with the next values, or a begin of a read
  abbrev pub call_rows : List Row
  call_rows =
      cond (eqb w.kind 1) (step_rows s.area w.process)
      (cond (eqb w.process (readers b))
      (write_rows s.area (words_at w.len b (values_at b + 8 * s.used)))
      (read_rows s.area w.process))

  -- a move: 12, 13, then the call's own
  abbrev pub move_rows : List Row
  move_rows = 12 if Malformed (readers b) w ∷ 13 if TooMany ∷ call_rows

pub record RunNumbers : Type 1 where
  pub begins : (b a : List ℕ) (k : ℕ) → ((begun b a).number ≡ k) ↔ Given (begin_rows b a) k
  pub moves : (b : List ℕ) (s : State) (w : Written) (k : ℕ)
      → ((played b s w).answer.number ≡ k) ↔ Given (move_rows b s w) k
