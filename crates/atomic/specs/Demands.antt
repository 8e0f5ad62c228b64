-- What is promised: demand 3 with its bounds, that every operation ends, what any call keeps, and the age on any words.
-- Assumes nothing.
use Rattle.std.specs.Prelude.{◌≡◌, ◌≢◌, ◌⊎◌, Bool, true, false, cond, not, ◌&&◌, List, [], ◌∷◌, length, get_or}
use Rattle.std.specs.Prelude.{ℕ, suc, ◌+◌, ◌≤◌, ◌<◌, eqb, ltb, leb}
use Rattle.theory.specs.Lists.{Each}
use Rattle.theory.specs.Table.{Untouched, has}
use Rattle.theory.specs.Place.{Record, Store}
use Rattle.register.specs.Area.{phase, len, desk_write_number, writer_phase, writer_len, writes_ended, most_writes}
use Rattle.register.specs.Area.{shape_of, readers, is_area, memory, undamaged}
use Rattle.register.specs.Shape.{Shape, table}
use Rattle.register.specs.Steps.{accept, Move, mover, plan}
use Rattle.register.specs.Calls.{Answer, made, answered, read_begun, write_begun, stepped, shown, after}
use Rattle.register.specs.Conditions.{word}
use Rattle.register.specs.Stands.{desk, writer}
use Rattle.atomic.specs.Seen.{Accepted, history}
use Rattle.theory.specs.History.{Write, History}
use Rattle.theory.specs.Line.{Line}

-- ---- runs

-- an area that was made, and changed since then only by accepted begins and steps, in any order
pub record Run : Type 0 where
  pub shape : Shape
  pub first : Record
  pub slice : List ℕ
  pub moves : List Move
  pub made_well : (made shape first slice).number ≡ 0
  pub accepted : Accepted (made shape first slice).area moves

module _ (u : Run) where
  abbrev pub beginning : List ℕ
  beginning = (made u.shape u.first u.slice).area

  abbrev pub now : List ℕ
  now = after beginning u.moves

  abbrev pub told : History
  told = history beginning u.moves

-- ---- demand 3

-- of a list of writes, newest first, how many have a number above k and were published before move t; the oldest is
-- number 1
abbrev pub later_published : ℕ → ℕ → List Write → ℕ
later_published k t [] = 0
later_published k t (w ∷ l) = cond (ltb k (suc (length l)) && ltb w.publication t) 1 0 + later_published k t l

-- of a run of `all_moves` moves with n readers
pub record Promise (n : ℕ) (first : Record) (all_moves : ℕ) (h : History) : Type 0 where
  pub line : Line first h
  -- with N readers the writer finds a slot in at most N + 2 looks
  pub looks : Each (λ w. w.looks ≤ n + 2) h.writes
  -- a write of L words ends within N + L + 7 of its own steps, and a read of L words within L + 4 of its own
  pub writes : Each (λ w. w.steps ≤ n + length w.gives + 7) h.writes
  pub reads : Each (λ x. x.steps ≤ length x.gets.shows + 4) h.reads
  -- a write takes looks + L + 5 steps, a read L + 2 or L + 4
  pub write_steps : Each (λ w. w.end < all_moves → w.steps ≡ w.looks + length w.gives + 5) h.writes
  pub read_steps : Each
      (λ x. (x.steps ≡ length x.gets.shows + 2) ⊎ (x.steps ≡ length x.gets.shows + 4)) h.reads
  -- each finished read's record is the reader's own to show
  pub own : Each (λ x. x.gets.own ≡ true) h.reads
  -- its age is how many writes later than the one it read were published before it ended
  pub ages : Each (λ x. x.gets.age ≡ later_published x.gets.number x.end h.writes) h.reads

abbrev pub Demand3 : Type 0
Demand3 = (u : Run) → Promise u.shape.n u.first (length u.moves) (told u)

-- ---- it ends

-- A call is refused for who asks, who is busy, a record too long or no write number left, and for nothing else: a busy
-- process's step and an idle process's begin are never refused, and 1, 2 and 8 are never met
pub record NeverStuck (k : Shape) (a : List ℕ) : Type 0 where
  pub reads : (r : ℕ) → (read_begun a r).number ≡ cond (ltb r k.n) (cond (eqb (memory a (phase r)) 0) 0 5) 3
  pub writes : (v : Record)
      → (write_begun a v).number
      ≡ cond (leb (length v) k.c)
      (cond (eqb (memory a writer_phase) 0) (cond (ltb (memory a writes_ended) most_writes) 0 7) 5) 4
  pub steps : (p : ℕ)
      → (stepped a p).number
      ≡ cond (ltb p k.n) (cond (eqb (memory a (phase p)) 0) 6 0)
      (cond (eqb p k.n) (cond (eqb (memory a writer_phase) 0) 6 0) 3)

-- the record of write number k: the starting record is number 0, and the newest of a list of writes has the list's
-- length for its number
abbrev pub record_of : Record → List Write → ℕ → Record
record_of first [] k = first
record_of first (w ∷ l) k = cond (eqb k (suc (length l))) w.gives (record_of first l k)

-- operations under way are within their bounds too
pub record UnderWay (n : ℕ) (first : Record) (a : List ℕ) (h : History) : Type 0 where
  pub looks : memory a writer_phase ≢ 0 → h.looks ≤ n + 2
  -- a write of L words: L is the length of the record that was handed to its begin, and the desk has it
  pub write_length : memory a writer_phase ≢ 0 → memory a writer_len ≡ length h.given
  pub writes : memory a writer_phase ≢ 0 → h.steps n < n + length h.given + 7
  -- a read that has not yet learnt its length
  pub early_reads : (r : ℕ) → r < n → memory a (phase r) ≢ 0 → memory a (phase r) ≢ 5 → h.steps r < 4
  -- a read of L words: L is the length of the record of the write whose number stands in the desk
  pub read_number : (r : ℕ) → r < n → memory a (phase r) ≡ 5
      → memory a (desk_write_number r) ≤ length h.writes
  pub read_length : (r : ℕ) → r < n → memory a (phase r) ≡ 5
      → memory a (len r) ≡ length (record_of first h.writes (memory a (desk_write_number r)))
  pub reads : (r : ℕ) → r < n → memory a (phase r) ≡ 5 → h.steps r < memory a (len r) + 4

-- together: the next step of a busy process is accepted, and whoever is busy has made fewer steps than its bound; so
-- each operation ends within its bound
abbrev pub Ends : Type 0
Ends = (u : Run) → NeverStuck u.shape (now u) × UnderWay u.shape.n u.first (now u) (told u)

-- ---- what any call keeps, on any words

-- a refusal returns "not ended", age 0, and changes no word
pub record Refused (a : List ℕ) (x : Answer) : Type 0 where
  pub ended : x.ended ≡ false
  pub age : x.age ≡ 0
  pub area : x.area ≡ a

-- process p is in an operation
abbrev pub busy : List ℕ → ℕ → Bool
busy a p = not (eqb (memory a (cond (ltb p (readers a)) (phase p) writer_phase)) 0)

-- an accepted call
pub record Intact (a : List ℕ) (x : Move) : Type 0 where
  -- it was made on an undamaged area, and leaves one, of the same length and words 0 to 6
  pub was_area : is_area a ≡ true
  pub was_undamaged : undamaged a ≡ true
  pub area' : is_area (answered a x).area ≡ true
  pub undamaged' : undamaged (answered a x).area ≡ true
  pub size : length (answered a x).area ≡ length a
  pub head : (i : ℕ) → i < 7 → get_or (answered a x).area i 0 ≡ get_or a i 0
  -- it stores to places of the area alone, and words that it does not name keep their value
  pub inside : (stores : List Store) (ends : Bool) → plan (shape_of a) (memory a) x ≡ accept stores ends
      → Each (λ s. has (table (shape_of a)) s.place ≡ true) stores
  pub others : (stores : List Store) (ends : Bool) → plan (shape_of a) (memory a) x ≡ accept stores ends
      → (i : ℕ) → Untouched (table (shape_of a)) i stores → get_or (answered a x).area i 0 ≡ get_or a i 0
  -- its process is in an operation from the begin to the answer "ended"; no other process is moved
  pub its_own : busy (answered a x).area (mover (shape_of a) x) ≡ not (answered a x).ended
  pub of_others : (p : ℕ) → p ≤ readers a → p ≢ mover (shape_of a) x
      → busy (answered a x).area p ≡ busy a p
  -- and what showing gives of another reader stays
  pub shows : (r : ℕ) (default : Record) → r < readers a → r ≢ mover (shape_of a) x
      → shown (answered a x).area r default ≡ shown a r default

abbrev pub Keeps : Type 0
Keeps = (a : List ℕ) (x : Move)
    → ((answered a x).number ≢ 0 → Refused a (answered a x)) × ((answered a x).number ≡ 0 → Intact a x)

-- ---- the age, on any words

-- z is x less y, not below 0
pub record Less (x y z : ℕ) : Type 0 where
  pub less : y ≤ x → z + y ≡ x
  pub not_below : x ≤ y → z ≡ 0

-- a step of reader r ended its read. Word 0 of the writer's desk is the writer's phase, word 6 writes ended; word 4 of
-- the reader's desk is the read's write number, which this step may just have stored
pub record Aged (a : List ℕ) (r : ℕ) : Type 0 where
  -- the age: writes ended, plus 1 if the writer is in phase 7, less the read's write number, not below 0
  pub in_phase_7 : writer a 0 ≡ 7 → Less (writer a 6 + 1) (desk (stepped a r).area r 4) (stepped a r).age
  pub otherwise : writer a 0 ≢ 7 → Less (writer a 6) (desk (stepped a r).area r 4) (stepped a r).age
  -- the sum is no more than a word holds, so the age is not either
  pub sum_fits : writer a 0 ≡ 7 → writer a 6 + 1 ≤ 18446744073709551615

abbrev pub Ages : Type 0
Ages = (a : List ℕ) (r : ℕ) → r < word a 1 → (stepped a r).ended ≡ true → Aged a r

-- ---- making

-- when it is accepted, and which number it answers where it is not, is a part of `Numbers`
pub record Makes : Type 0 where
  pub sound : (k : Shape) (v : Record) (a : List ℕ) → (made k v a).number ≡ 0
      → (is_area (made k v a).area ≡ true) × (undamaged (made k v a).area ≡ true)
  pub refused : (k : Shape) (v : Record) (a : List ℕ) → (made k v a).number ≢ 0 → Refused a (made k v a)
