-- Input A of document 01, computed from the definitions: what is printed, the history, the line and the counts. So the
-- promises speak of something. Assumes nothing.
use mathlib.Core.Path.{◌≡◌, refl}
use mathlib.Core.Bool.{Bool, true, cond, ◌&&◌}
use mathlib.Core.List.{List, [], ◌∷◌}
use Prim.Native.Nat.{ℕ, suc}
use lib.Dec.{T, ltb, eqb, eqb→eq, lit≤}
use lib.ListN.{take}
use Rattle.register.specs.Area.{is_area, slot_sound, desk_sound, writer_sound, undamaged, readers, shape_of}
use Rattle.register.specs.Shape.{shape}
use Rattle.register.specs.Steps.{reader_step, writer_step, Move, read, write, step, mover}
use Rattle.register.specs.Calls.{Answer, made, carried_out, answered, is_own, shown, after}
use Rattle.atomic.specs.Seen.{Accepted, none, then}
use Rattle.theory.specs.History.{Read, Write, History}
use Rattle.theory.specs.Line.{start, reading, writing, keep, swap, here, Line, done, from_start, to_read, from_write}
use Rattle.atomic.specs.Demands.{Run, told}
use Rattle.theory.proofs.Tests.{both}
use Rattle.theory.proofs.Lining.{Rising, no_more, next, in_order}
use Rattle.register.proofs.SmallRuns.{flag, area_p1, input_a, current_word}

-- ---- what is printed

-- 0 for B, 1 for S
abbrev kind : Move → ℕ
kind (read r) = 0
kind (write v) = 0
kind (step p) = 1

-- the age and the words after a finished read
abbrev read_out : ℕ → ℕ → Answer → List ℕ
read_out n p x = cond (x.ended && ltb p n) (x.age ∷ shown x.area p []) []

-- a line for each move: its number, process, kind, answer number, 1 if an operation ended or else 0, and a finished
-- read
abbrev printed : ℕ → List ℕ → List Move → List (List ℕ)
printed k a [] = []
printed k a (x ∷ l) =
    (k ∷ mover (shape_of a) x ∷ kind x ∷ (answered a x).number ∷ flag (answered a x).ended
    ∷ read_out (readers a) (mover (shape_of a) x) (answered a x))
    ∷ printed (suc k) (answered a x).area l

printed_a : printed 0 area_p1 input_a
    ≡ (0 ∷ 1 ∷ 0 ∷ 0 ∷ 0 ∷ [])
    ∷ (1 ∷ 1 ∷ 1 ∷ 0 ∷ 0 ∷ [])
    ∷ (2 ∷ 1 ∷ 1 ∷ 0 ∷ 0 ∷ [])
    ∷ (3 ∷ 1 ∷ 1 ∷ 0 ∷ 0 ∷ [])
    ∷ (4 ∷ 1 ∷ 1 ∷ 0 ∷ 0 ∷ [])
    ∷ (5 ∷ 1 ∷ 1 ∷ 0 ∷ 0 ∷ [])
    ∷ (6 ∷ 1 ∷ 1 ∷ 0 ∷ 0 ∷ [])
    ∷ (7 ∷ 1 ∷ 1 ∷ 0 ∷ 0 ∷ [])
    ∷ (8 ∷ 0 ∷ 0 ∷ 0 ∷ 0 ∷ [])
    ∷ (9 ∷ 0 ∷ 1 ∷ 0 ∷ 0 ∷ [])
    ∷ (10 ∷ 0 ∷ 1 ∷ 0 ∷ 0 ∷ [])
    ∷ (11 ∷ 0 ∷ 1 ∷ 0 ∷ 0 ∷ [])
    ∷ (12 ∷ 0 ∷ 1 ∷ 0 ∷ 0 ∷ [])
    ∷ (13 ∷ 0 ∷ 1 ∷ 0 ∷ 1 ∷ 0 ∷ 8 ∷ [])
    ∷ (14 ∷ 1 ∷ 1 ∷ 0 ∷ 1 ∷ [])
    ∷ (15 ∷ 0 ∷ 1 ∷ 6 ∷ 0 ∷ [])
    ∷ []
unfolding is_area slot_sound desk_sound writer_sound undamaged reader_step writer_step carried_out answered is_own shown
printed_a = refl

end_a : current_word (after area_p1 input_a) ≡ 4294967297
unfolding is_area slot_sound desk_sound writer_sound undamaged reader_step writer_step carried_out answered
end_a = refl

-- ---- the run of its accepted moves

-- whether every move is accepted
abbrev pub accepts : List ℕ → List Move → Bool
accepts a [] = true
accepts a (x ∷ l) = eqb (answered a x).number 0 && accepts (answered a x).area l

pub accepted_if : (a : List ℕ) (l : List Move) → T (accepts a l) → Accepted a l
accepted_if a [] t = none
accepted_if a (x ∷ l) t =
    let (z, rest) = both (eqb (answered a x).number 0) (accepts (answered a x).area l) t in
    then (eqb→eq _ _ z) (accepted_if (answered a x).area l rest)

run_a : Run
unfolding is_area slot_sound desk_sound writer_sound undamaged reader_step writer_step made carried_out answered
run_a =
    record {
      shape = shape 1 1 1;
      first = 7 ∷ [];
      slice = area_p1;
      moves = take 15 input_a;
      made_well = refl;
      accepted = accepted_if (made (shape 1 1 1) (7 ∷ []) area_p1).area (take 15 input_a) tt;
    }

abbrev write_a : Write
write_a = record { begin = 0; publication = 7; end = 14; steps = 8; looks = 2; gives = 8 ∷ [] }

abbrev read_a : Read
read_a =
    record {
      reader = 0;
      begin = 8;
      end = 13;
      steps = 5;
      gets = record { age = 0; number = 1; own = true; shows = 8 ∷ [] };
    }

abbrev pub of_reads_and_writes : History → List Read × List Write
of_reads_and_writes h = (h.reads, h.writes)

history_a : of_reads_and_writes (told run_a) ≡ (read_a ∷ [], write_a ∷ [])
unfolding run_a is_area slot_sound desk_sound writer_sound undamaged reader_step writer_step made carried_out answered
    is_own shown
history_a = refl

-- the starting record, the write, the read
line_a : Line (7 ∷ []) (told run_a)
unfolding run_a is_area slot_sound desk_sound writer_sound undamaged reader_step writer_step made carried_out answered
    is_own shown
line_a =
    record {
      line = start (7 ∷ []) ∷ writing write_a ∷ reading read_a ∷ [];
      starting = here;
      whole = keep swap;
      order = in_order rising;
      gives = from_start (from_write (to_read refl refl done));
      numbered = refl;
    }
  where
    rising : Rising 0 (start (7 ∷ []) ∷ writing write_a ∷ reading read_a ∷ [])
    rising =
        next 0 (lit≤ tt) (lit≤ tt) (lit≤ tt)
        (next 8 (lit≤ tt) (lit≤ tt) (lit≤ tt) (next 14 (lit≤ tt) (lit≤ tt) (lit≤ tt) no_more))
