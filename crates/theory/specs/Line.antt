-- What it is to stand in one line, in the customer's words. It knows histories, nothing of areas or steps.
-- Assumes nothing.
use Rattle.std.specs.Prelude.{◌≡◌, List, [], ◌∷◌, ◌++◌, map, reverse, ℕ, zero, suc, ◌<◌}
use Rattle.theory.specs.Place.{Record}
use Rattle.theory.specs.History.{Read, Write, History}

-- the starting record, a finished read, a published write
pub data Operation : Type 0 where
  start : Record → Operation
  reading : Read → Operation
  writing : Write → Operation

-- moments: the starting record began and ended at 0, move k is at k + 1
abbrev pub began : Operation → ℕ
began (start v) = 0
began (reading x) = suc x.begin
began (writing w) = suc w.begin

abbrev pub ended : Operation → ℕ
ended (start v) = 0
ended (reading x) = suc x.end
ended (writing w) = suc w.end

-- all that a history has to put in line
abbrev pub operations : Record → History → List Operation
operations first h = start first ∷ (map reading h.reads ++ map writing h.writes)

-- one list is the other in another order: each has what the other has, as often
pub data Reordered : List Operation → List Operation → Type 0 where
  empty : Reordered [] []
  keep : {x : Operation} {l k : List Operation} → Reordered l k → Reordered (x ∷ l) (x ∷ k)
  swap : {x y : Operation} {l : List Operation} → Reordered (x ∷ y ∷ l) (y ∷ x ∷ l)
  twice : {l k j : List Operation} → Reordered l k → Reordered k j → Reordered l j

-- x stands at place i
pub data At (x : Operation) : List Operation → ℕ → Type 0 where
  here : {l : List Operation} → At x (x ∷ l) zero
  behind : {y : Operation} {l : List Operation} {i : ℕ} → At x l i → At x (y ∷ l) (suc i)

-- walking the line with the nearest write ahead, its number k and its record v, each read has just that number and
-- shows just that record, length and words; the starting record is number 0, the next write 1, and so on
pub data Gives : ℕ → Record → List Operation → Type 0 where
  done : {k : ℕ} {v : Record} → Gives k v []
  from_start : {k : ℕ} {v w : Record} {l : List Operation} → Gives 0 w l → Gives k v (start w ∷ l)
  to_read : {k : ℕ} {v : Record} {x : Read} {l : List Operation} → x.gets.number ≡ k → x.gets.shows ≡ v
      → Gives k v l → Gives k v (reading x ∷ l)
  from_write : {k : ℕ} {v : Record} {w : Write} {l : List Operation} → Gives (suc k) w.gives l
      → Gives k v (writing w ∷ l)

-- the writes of a line, in its order
abbrev pub writes_of : List Operation → List Write
writes_of [] = []
writes_of (start v ∷ l) = writes_of l
writes_of (reading x ∷ l) = writes_of l
writes_of (writing w ∷ l) = w ∷ writes_of l

-- one line, oldest first
pub record Line (first : Record) (h : History) : Type 0 where
  pub line : List Operation
  -- the starting record first
  pub starting : At (start first) line 0
  -- all finished reads and published writes, each once
  pub whole : Reordered (operations first h) line
  -- an operation that ended before another began stands ahead of it
  pub order : {x y : Operation} {i j : ℕ} → At x line i → At y line j → ended x < began y → i < j
  -- each read gives the whole record of the nearest write ahead of it
  pub gives : Gives 0 [] line
  -- its writes stand in the order of the history, whose newest is the first of its list: a write's number, by which the
  -- reads are said to give it, is its place among the publications
  pub numbered : writes_of line ≡ reverse h.writes
