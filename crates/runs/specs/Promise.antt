-- What a run file's run has to do with the demands: it is a run of its accepted calls, the same answers were given
-- to them, and the tally is theirs. Assumes nothing.
use Rattle.std.specs.Prelude.{◌≡◌, true, cond, ◌&&◌, List, [], ◌∷◌, ◌++◌, map, reverse, length}
use Rattle.std.specs.Prelude.{ℕ, zero, suc, ◌+◌, max, eqb, ltb}
use Rattle.register.specs.Steps.{Move}
use Rattle.register.specs.Calls.{Answer, answered}
use Rattle.theory.specs.History.{Got}
use Rattle.atomic.specs.Seen.{got}
use Rattle.atomic.specs.Demands.{Run, beginning, now, told}
use Rattle.runfile.specs.RunFile.{readers, moves, starting_record, is_run_file, written}
use Rattle.playing.specs.Play.{run_shape, State, played, next, first_state, run_answers, run_state, run_tally}
use Rattle.playing.specs.Play.{accepted_calls}

-- the answers to calls, one after another
abbrev pub answers_to : List ℕ → List Move → List Answer
answers_to a [] = []
answers_to a (x ∷ l) = answered a x ∷ answers_to (answered a x).area l

-- the answers that are no refusals
abbrev pub accepted_only : List Answer → List Answer
accepted_only [] = []
accepted_only (x ∷ l) = cond (eqb x.number 0) (x ∷ accepted_only l) (accepted_only l)

abbrev pub greatest_age : List Answer → ℕ
greatest_age [] = 0
greatest_age (x ∷ l) = max x.age (greatest_age l)

-- what a move's answer says that a finished read got; the bench prints its age and what showing gives
abbrev pub read_got : ℕ → ℕ → Answer → List Got
read_got n p x = cond (x.ended && ltb p n) (got p x ∷ []) []

-- what the reads got that k moves from move i on finished
abbrev pub reads_got : List ℕ → ℕ → ℕ → State → List Got
reads_got b zero i s = []
reads_got b (suc k) i s =
    read_got (readers b) (written b i).process (played b s (written b i)).answer
    ++ reads_got b k (suc i) (next b s (written b i))

-- a run of the demands whose moves are the accepted calls and whose answers and area at the end, and so whose current
-- word, are those that were played; whose history has the reads that were printed; and whose answers have the tally
pub record PlayedRun (b : List ℕ) : Type 0 where
  pub run : Run
  pub its_shape : run.shape ≡ run_shape b
  pub its_record : run.first ≡ starting_record b
  pub its_moves : run.moves ≡ accepted_calls b (moves b) 0 (first_state b)
  pub its_answers : answers_to (beginning run) run.moves ≡ accepted_only (run_answers b)
  pub its_reads : map (λ r. r.gets) (reverse (told run).reads) ≡ reads_got b (moves b) 0 (first_state b)
  pub its_area : now run ≡ (run_state b).area
  pub its_accepted : (run_tally b).accepted ≡ length run.moves
  pub its_refusals : (run_tally b).accepted + (run_tally b).refusals ≡ moves b
  pub its_greatest : (run_tally b).greatest ≡ greatest_age (answers_to (beginning run) run.moves)

abbrev pub PlaysARun : Type 0
PlaysARun = (b : List ℕ) → is_run_file b ≡ true → PlayedRun b
