-- A run in which a read ends while the writer sleeps before its last step, computed from the definitions: its history
-- (`Counts` has its age there and by document 01's rule). Assumes nothing.
use mathlib.Core.Path.{◌≡◌, refl}
use mathlib.Core.Bool.{true}
use mathlib.Core.List.{List, [], ◌∷◌, ◌++◌}
use Rattle.register.specs.Area.{is_area, slot_sound, desk_sound, writer_sound, undamaged}
use Rattle.register.specs.Shape.{shape}
use Rattle.register.specs.Steps.{reader_step, writer_step, Move, read, step}
use Rattle.register.specs.Calls.{made, carried_out, answered, is_own, shown}
use Rattle.register.proofs.SmallRuns.{area_p1, written}
use Rattle.theory.specs.History.{Read}
use Rattle.atomic.specs.Demands.{Run, told}
use Rattle.atomic.proofs.Counts.{write_s}
use Rattle.atomic.proofs.InputA.{accepted_if, of_reads_and_writes}

-- the reader takes the size and sleeps before its last word; move 10 publishes the write of 8; the reader wakes up and
-- ends its read of the starting record, 7, with move 11, and the writer sleeps in phase 7
abbrev moves_s : List Move
moves_s = (read 0 ∷ step 0 ∷ step 0 ∷ []) ++ written (8 ∷ []) 7 ++ (step 0 ∷ [])

run_s : Run
unfolding is_area slot_sound desk_sound writer_sound undamaged reader_step writer_step made carried_out answered
run_s =
    record {
      shape = shape 1 1 1;
      first = 7 ∷ [];
      slice = area_p1;
      moves = moves_s;
      made_well = refl;
      accepted = accepted_if (made (shape 1 1 1) (7 ∷ []) area_p1).area moves_s tt;
    }

abbrev read_s : Read
read_s =
    record {
      reader = 0;
      begin = 0;
      end = 11;
      steps = 3;
      gets = record { age = 1; number = 0; own = true; shows = 7 ∷ [] };
    }

history_s : of_reads_and_writes (told run_s) ≡ (read_s ∷ [], write_s ∷ [])
unfolding run_s is_area slot_sound desk_sound writer_sound undamaged reader_step writer_step made carried_out answered
    is_own shown
history_s = refl
