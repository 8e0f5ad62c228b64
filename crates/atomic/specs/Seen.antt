-- What is seen of a board's moves, told from the answers and from the areas before and after each, and the history of
-- a run. Assumes nothing.
use Rattle.std.specs.Prelude.{◌≡◌, cond, List, [], ◌∷◌, ℕ, eqb, ltb, length}
use Rattle.theory.specs.History.{Got, Deed, Event, read_began, write_began, went_on, looked, published, read_ended}
use Rattle.theory.specs.History.{write_ended, History, all_noted, nothing_yet}
use Rattle.register.specs.Area.{readers, memory, phase, desk_write_number, writer_phase}
use Rattle.register.specs.Steps.{Move, read, write, step}
use Rattle.register.specs.Calls.{Answer, answered, stepped, is_own, shown}

-- ---- runs of moves

-- every move of the list is accepted
pub data Accepted : List ℕ → List Move → Type 0 where
  none : {a : List ℕ} → Accepted a []
  then : {a : List ℕ} {x : Move} {l : List Move} → (answered a x).number ≡ 0 → Accepted (answered a x).area l
      → Accepted a (x ∷ l)

-- ---- what an accepted move did

-- a step of the writer out of phase k: in phase 1 it looks, in phase 6 it publishes
abbrev pub writer_deed : ℕ → Answer → Deed
writer_deed k x =
    cond (eqb k 6) (published x.ended) (cond x.ended write_ended (cond (eqb k 1) looked (went_on k)))

-- what reader r's desk shows after a call
abbrev pub got : ℕ → Answer → Got
got r x =
    record {
      age = x.age;
      number = memory x.area (desk_write_number r);
      own = is_own x.area r;
      shows = shown x.area r [];
    }

-- a step of reader r out of phase k
abbrev pub reader_deed : ℕ → ℕ → Answer → Deed
reader_deed r k x = cond x.ended (read_ended (got r x)) (went_on k)

abbrev pub event : List ℕ → Move → Event
event a (read r) = record { who = r; what = read_began }
event a (write v) = record { who = readers a; what = write_began v }
event a (step p) =
    record {
      who = p;
      what =
          cond (ltb p (readers a)) (reader_deed p (memory a (phase p)) (stepped a p))
          (writer_deed (memory a writer_phase) (stepped a p));
    }

abbrev pub events : List ℕ → List Move → List Event
events a [] = []
events a (x ∷ l) = event a x ∷ events (answered a x).area l

-- ---- histories

-- the history of a run from an area
abbrev pub history : List ℕ → List Move → History
history a l = all_noted (length l) nothing_yet (events a l)
