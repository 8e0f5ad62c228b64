-- What a run of any register has to say: what its moves did, and the finished reads and published writes of it. It
-- knows of no area and no step. Assumes nothing.
use Rattle.std.specs.Prelude.{Bool, cond, List, [], ◌∷◌, ℕ, suc, eqb}
use Rattle.theory.specs.Place.{Record}

-- ---- what an accepted move did

-- what a read got when it ended: its age as answered, its write number, whether showing says that the record is the
-- reader's own, and the record that showing gives
pub record Got : Type 0 where
  pub age : ℕ
  pub number : ℕ
  pub own : Bool
  pub shows : Record

-- `went_on k` is a step out of phase k that does none of the others; `published true` also ends the write
pub data Deed : Type 0 where
  read_began : Deed
  write_began : Record → Deed
  went_on : ℕ → Deed
  looked : Deed
  published : Bool → Deed
  read_ended : Got → Deed
  write_ended : Deed

pub record Event : Type 0 where
  pub who : ℕ
  pub what : Deed

-- ---- histories

-- a finished read: its reader, the moves that began and ended it, its own steps, what it got
pub record Read : Type 0 where
  pub reader : ℕ
  pub begin : ℕ
  pub end : ℕ
  pub steps : ℕ
  pub gets : Got

-- a published write: the moves that began, published and ended it, its own steps, its looks, its record. Of a write
-- that has not ended, `end` is the number of all moves of the run and `steps` counts up to the publication
pub record Write : Type 0 where
  pub begin : ℕ
  pub publication : ℕ
  pub end : ℕ
  pub steps : ℕ
  pub looks : ℕ
  pub gives : Record

-- the moves so far; of each process the move that began its operation and its own steps since; the looks and the
-- record of the write under way; the finished reads and the published writes, newest first
pub record History : Type 0 where
  pub moves : ℕ
  pub began : ℕ → ℕ
  pub steps : ℕ → ℕ
  pub looks : ℕ
  pub given : Record
  pub reads : List Read
  pub writes : List Write

-- a function changed at p
abbrev pub changed_at : (ℕ → ℕ) → ℕ → ℕ → ℕ → ℕ
changed_at f p v q = cond (eqb q p) v (f q)

-- the newest write ended at move t, after k own steps
abbrev pub closed : ℕ → ℕ → List Write → List Write
closed t k [] = []
closed t k (w ∷ l) =
    record { begin = w.begin; publication = w.publication; end = t; steps = k; looks = w.looks; gives = w.gives }
    ∷ l

-- one more move, by process p, of a run of `all_moves` moves
module _ (all_moves : ℕ) (h : History) (p : ℕ) where
  abbrev pub began_now : ℕ → Record → History
  began_now looks given =
      record {
        moves = suc h.moves;
        began = changed_at h.began p h.moves;
        steps = changed_at h.steps p 0;
        looks = looks;
        given = given;
        reads = h.reads;
        writes = h.writes;
      }

  abbrev pub stepped_on : ℕ → List Read → List Write → History
  stepped_on looks reads writes =
      record {
        moves = suc h.moves;
        began = h.began;
        steps = changed_at h.steps p (suc (h.steps p));
        looks = looks;
        given = h.given;
        reads = reads;
        writes = writes;
      }

  abbrev pub the_read : Got → Read
  the_read g = record { reader = p; begin = h.began p; end = h.moves; steps = suc (h.steps p); gets = g }

  abbrev pub the_write : Bool → Write
  the_write ended =
      record {
        begin = h.began p;
        publication = h.moves;
        end = cond ended h.moves all_moves;
        steps = suc (h.steps p);
        looks = h.looks;
        gives = h.given;
      }

  abbrev pub noted : Deed → History
  noted read_began = began_now h.looks h.given
  noted (write_began v) = began_now 0 v
  noted (went_on k) = stepped_on h.looks h.reads h.writes
  noted looked = stepped_on (suc h.looks) h.reads h.writes
  noted (published ended) = stepped_on h.looks h.reads (the_write ended ∷ h.writes)
  noted (read_ended g) = stepped_on h.looks (the_read g ∷ h.reads) h.writes
  noted write_ended = stepped_on h.looks h.reads (closed h.moves (suc (h.steps p)) h.writes)

abbrev pub all_noted : ℕ → History → List Event → History
all_noted all_moves h [] = h
all_noted all_moves h (e ∷ l) = all_noted all_moves (noted all_moves h e.who e.what) l

abbrev pub nothing_yet : History
nothing_yet = record { moves = 0; began = λ p. 0; steps = λ p. 0; looks = 0; given = []; reads = []; writes = [] }
