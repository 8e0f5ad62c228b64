-- The history leaves nothing out and makes nothing up: its reads and writes are told once more, from the moves, their
-- answers and the areas alone, and are the same. Assumes nothing.
use Rattle.std.specs.Prelude.{◌≡◌, Bool, false, cond, ◌&&◌, List, [], ◌∷◌, map, ℕ, suc, ◌≤◌, eqb, ltb, length}
use Rattle.theory.specs.Place.{Record}
use Rattle.register.specs.Area.{shape_of, readers, memory, desk_write_number, writer_phase}
use Rattle.register.specs.Steps.{Move, read, write, step, mover}
use Rattle.register.specs.Calls.{answered, stepped, is_own, shown}
use Rattle.theory.specs.History.{Read, Write}
use Rattle.theory.specs.Lists.{Each}
use Rattle.atomic.specs.Demands.{Run, beginning, told}

-- ---- the moves of a run

-- a move that was made, and the area before it
pub record Moment : Type 0 where
  pub area : List ℕ
  pub move : Move

-- the moves from an area on, newest first, in front of those of the past; as many stand behind a move as its number
abbrev pub trail : List Moment → List ℕ → List Move → List Moment
trail past a [] = past
trail past a (x ∷ l) = trail (record { area = a; move = x } ∷ past) (answered a x).area l

abbrev pub moves_of : Run → List Moment
moves_of u = trail [] (beginning u) u.moves

-- ---- what a move is, told from the area before it

-- a begin of process p, a step of process p
abbrev pub begins : ℕ → List ℕ → Move → Bool
begins p a (read r) = eqb p r
begins p a (write v) = eqb p (readers a)
begins p a (step q) = false

abbrev pub steps : ℕ → List ℕ → Move → Bool
steps p a (read r) = false
steps p a (write v) = false
steps p a (step q) = eqb p q

-- a step of a reader that answered "ended"
abbrev pub ends_read : List ℕ → Move → Bool
ends_read a (read r) = false
ends_read a (write v) = false
ends_read a (step p) = ltb p (readers a) && (stepped a p).ended

-- a step of the writer out of phase k: in phase 1 it looks, in phase 6 it publishes
abbrev pub leaves_phase : ℕ → List ℕ → Move → Bool
leaves_phase k a (read r) = false
leaves_phase k a (write v) = false
leaves_phase k a (step p) = eqb p (readers a) && eqb (memory a writer_phase) k

-- a step of the writer that answered "ended"
abbrev pub ends_write : List ℕ → Move → Bool
ends_write a (read r) = false
ends_write a (write v) = false
ends_write a (step p) = eqb p (readers a) && (stepped a p).ended

-- ---- what the moves before it tell of an operation

-- the number of the newest begin of process p
abbrev pub begun_at : ℕ → List Moment → ℕ
begun_at p [] = 0
begun_at p (m ∷ past) = cond (begins p m.area m.move) (length past) (begun_at p past)

-- how many moves since then pass a test
abbrev pub since : ℕ → (List ℕ → Move → Bool) → List Moment → ℕ
since p test [] = 0
since p test (m ∷ past) =
    cond (begins p m.area m.move) 0
    (cond (test m.area m.move) (suc (since p test past)) (since p test past))

-- the record that was handed to the newest begin of a write
abbrev pub handed_by : Move → Record → Record
handed_by (read r) before = before
handed_by (write v) before = v
handed_by (step p) before = before

abbrev pub handed : List Moment → Record
handed [] = []
handed (m ∷ past) = handed_by m.move (handed past)

-- the moves that pass a test, each told with the moves before it, newest first
abbrev pub told_of : {A : Type 0} → (List ℕ → Move → Bool) → (List ℕ → Move → List Moment → A)
    → List Moment → List A
told_of test tell [] = []
told_of test tell (m ∷ past) =
    cond (test m.area m.move) (tell m.area m.move past ∷ told_of test tell past) (told_of test tell past)

-- ---- reads and writes

-- a read that ends with a move: its reader, its begin, this move, its own steps, what showing then gives
abbrev pub read_told : List ℕ → Move → List Moment → Read
read_told a x past =
    let p = mover (shape_of a) x in
    record {
      reader = p;
      begin = begun_at p past;
      end = length past;
      steps = suc (since p (steps p) past);
      gets = record {
        age = (answered a x).age;
        number = memory (answered a x).area (desk_write_number p);
        own = is_own (answered a x).area p;
        shows = shown (answered a x).area p [];
      };
    }

-- a publication: the begin of its write, its own move, the looks, the record that was handed to the begin
pub record Publication : Type 0 where
  pub begin : ℕ
  pub move : ℕ
  pub looks : ℕ
  pub gives : Record

abbrev pub publication_told : List ℕ → Move → List Moment → Publication
publication_told a x past =
    record {
      begin = begun_at (readers a) past;
      move = length past;
      looks = since (readers a) (leaves_phase 1) past;
      gives = handed past;
    }

-- the end of a write: its own move, the steps of the write
pub record End : Type 0 where
  pub move : ℕ
  pub steps : ℕ

abbrev pub end_told : List ℕ → Move → List Moment → End
end_told a x past =
    record { move = length past; steps = suc (since (readers a) (steps (readers a)) past) }

-- ---- the same of the history's writes

abbrev pub publication_of : Write → Publication
publication_of w = record { begin = w.begin; move = w.publication; looks = w.looks; gives = w.gives }

abbrev pub end_of : Write → End
end_of w = record { move = w.end; steps = w.steps }

-- those that have ended in a run of `all_moves` moves
abbrev pub ended_only : ℕ → List Write → List Write
ended_only all_moves [] = []
ended_only all_moves (w ∷ l) = cond (ltb w.end all_moves) (w ∷ ended_only all_moves l) (ended_only all_moves l)

-- ---- nothing is left out, nothing is made up

-- all lists are newest first
pub record Complete (u : Run) : Type 0 where
  -- the finished reads are the readers' steps that answered "ended"
  pub reads : (told u).reads ≡ told_of ends_read read_told (moves_of u)
  -- the published writes are the writer's steps out of phase 6
  pub published : map publication_of (told u).writes ≡ told_of (leaves_phase 6) publication_told (moves_of u)
  -- the ended writes are the writer's steps that answered "ended"
  pub ended : map end_of (ended_only (length u.moves) (told u).writes) ≡ told_of ends_write end_told (moves_of u)
  -- of a write that has not ended, `end` is the number of all moves; a publication stands from begin to end
  pub latest : Each (λ w. w.end ≤ length u.moves) (told u).writes
  pub between : Each (λ w. (w.begin ≤ w.publication) × (w.publication ≤ w.end)) (told u).writes
  -- of operations under way: their begins, their own steps, the looks and the record of the write
  pub now_began : (p : ℕ) → (told u).began p ≡ begun_at p (moves_of u)
  pub now_steps : (p : ℕ) → (told u).steps p ≡ since p (steps p) (moves_of u)
  pub now_looks : (told u).looks ≡ since u.shape.n (leaves_phase 1) (moves_of u)
  pub now_given : (told u).given ≡ handed (moves_of u)

abbrev pub LeavesNothingOut : Type 0
LeavesNothingOut = (u : Run) → Complete u
