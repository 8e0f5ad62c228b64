-- The text that the bench prints: of a run, or of a file that is none. Assumes nothing.
use Rattle.std.specs.Prelude.{cond, List, [], ◌++◌, ℕ, zero, suc}
use Rattle.runfile.specs.RunFile.{readers, moves, is_run_file, written}
use Rattle.text.specs.Lines.{Text}
use Rattle.playing.specs.Play.{State, played, next, first_state, run_state, run_tally}
use Rattle.lines.specs.OneLine.{answer_line, first_line, last_line, refused_text}

abbrev pub move_line : List ℕ → ℕ → State → Text
move_line b i s = answer_line (readers b) i (written b i) (played b s (written b i)).answer

-- the lines of k moves from move i on
abbrev pub move_lines : List ℕ → ℕ → ℕ → State → Text
move_lines b zero i s = []
move_lines b (suc k) i s = move_line b i s ++ move_lines b k (suc i) (next b s (written b i))

unfoldable pub run_text : List ℕ → Text
run_text b =
    first_line b ++ (move_lines b (moves b) 0 (first_state b) ++ last_line (run_state b).area (run_tally b))

unfoldable pub printed : List ℕ → Text
printed b = cond (is_run_file b) (run_text b) refused_text
