-- A run as the code goes through it: where it has come to, one move more, and the text that is left. Assumes nothing.
use Rattle.std.specs.Prelude.{◌≡◌, List, ◌++◌, ℕ}
use Rattle.playing.specs.Play.{State, played, next, answers, state_after, tally_of}
use Rattle.playing.specs.Code.{state}
use Rattle.lines.specs.OneLine.{last_line}
use Rattle.bench.specs.Printed.{move_line, move_lines}
use Rattle.runfile.specs.RunFile.{written}
use Rattle.text.specs.Lines.{Text}
use Rattle.text.specs.Sheet.{Sheet, put, as_sheet}
use Rattle.tally.specs.Tally.{Tally, as_tally, counted}
use Rattle.bench.specs.declared.printing.Run as code

-- where a run has come to: the state, the text and the tally
pub record Course : Type 0 where
  pub state : State
  pub text : Sheet
  pub tally : Tally

abbrev pub as_course : code.Run → Course
as_course r =
    record { state = state r.area.now r.used; text = as_sheet r.sheet.now; tally = as_tally r.tally }

-- after one more move
abbrev pub course_after : List ℕ → ℕ → Course → Course
course_after b i g =
    let x = (played b g.state (written b i)).answer in
    record {
      state = next b g.state (written b i);
      text = put g.text (move_line b i g.state);
      tally = counted g.tally x.number x.age;
    }

-- the lines of k moves from move i on, and the last line
abbrev pub lines_from : List ℕ → ℕ → ℕ → State → Tally → Text
lines_from b k i s t = move_lines b k i s ++ last_line (state_after b k i s).area (tally_of t (answers b k i s))

-- the file is the same, and the words, the sheet and its bytes are those that were lent
pub record SameLent (old new : code.Run) : Type 0 where
  pub file : new.file ≡ old.file
  pub words : new.area.ghost_name ≡ old.area.ghost_name
  pub sheet : new.sheet.ghost_name ≡ old.sheet.ghost_name
  pub bytes : new.sheet.now.bytes.ghost_name ≡ old.sheet.now.bytes.ghost_name
