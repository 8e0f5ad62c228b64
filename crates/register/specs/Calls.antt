-- The calls: from any words, any process and any record to the answer and every word after the call. Assumes nothing.
use Rattle.std.specs.Prelude.{Bool, false, cond, ◌&&◌, List, [], ◌∷◌, ℕ, ◌+◌, ◌-◌, eqb, ltb, leb, length, replicate}
use Rattle.theory.specs.Lists.{words_from, all}
use Rattle.theory.specs.Place.{Record, Memory, Store, ◌≔◌, copied}
use Rattle.theory.specs.Table.{total, address, view, store}
use Rattle.register.specs.Shape.{Shape, table, slots_at, desks_at, writer_at, in_range, known_form}
use Rattle.register.specs.Area.{header, current, size, contents, phase, len, desk_write_number, finished}
use Rattle.register.specs.Area.{read_record, writer_phase, writes_ended, shape_of, readers, is_area, memory}
use Rattle.register.specs.Area.{undamaged}
use Rattle.register.specs.Steps.{Refusal, ◌else◌, unless, Plan, refuse, accept, Move, read, write, step}
use Rattle.register.specs.Steps.{mover, plan, has_call}

-- what a call returns, and the area as it leaves it
pub record Answer : Type 0 where
  pub number : ℕ
  pub ended : Bool
  pub age : ℕ
  pub area : List ℕ

abbrev pub refused : ℕ → List ℕ → Answer
refused k a = record { number = k; ended = false; age = 0; area = a }

-- ---- making (I1)

abbrev pub making : Shape → Record → List Store
making k v =
    header 0 ≔ k.form ∷ header 1 ≔ k.n ∷ header 2 ≔ k.c ∷ header 3 ≔ total (table k)
    ∷ header 4 ≔ slots_at k ∷ header 5 ≔ desks_at k ∷ header 6 ≔ writer_at k
    ∷ current ≔ k.n ∷ size 0 ≔ length v ∷ copied (contents 0) 0 v

-- the stores of making on words that are all 0
abbrev pub fresh : Shape → Record → List ℕ
fresh k v = store (table k) (replicate (total (table k)) 0) (making k v)

abbrev pub making_tests : Shape → Record → List ℕ → List Refusal
making_tests k v a =
    (known_form k.form && in_range k) else 9
    ∷ eqb (length a) (total (table k)) else 10
    ∷ leb (length v) k.c else 4
    ∷ []

unfoldable pub made : Shape → Record → List ℕ → Answer
made k v a =
    unless (λ i. refused i a) (making_tests k v a)
    (record { number = 0; ended = false; age = 0; area = fresh k v })

-- ---- calls on an existing area

-- the writes published by now: writes ended, plus 1 if the writer is in phase 7
abbrev pub published_writes : Memory → ℕ
published_writes m = m writes_ended + cond (eqb (m writer_phase) 7) 1 0

-- the age (request 1 of document 02): writes published less the read's write number, not below 0
abbrev pub age_of : Memory → ℕ → ℕ
age_of m r = published_writes m - m (desk_write_number r)

-- a plan carried out; p, the process, matters to the age alone, which only the end of a read has
unfoldable pub carried_out : ℕ → List ℕ → Plan → Answer
carried_out p a (refuse k) = refused k a
carried_out p a (accept stores ends) =
    record {
      number = 0;
      ended = ends;
      age =
          cond (ends && ltb p (readers a))
          (age_of (view (table (shape_of a)) (store (table (shape_of a)) a stores)) p) 0;
      area = store (table (shape_of a)) a stores;
    }

-- every call on an existing area tests it before anything else; a call that the area's form lacks answers 1 too
abbrev pub call_tests : List ℕ → Bool → List Refusal
call_tests a has = is_area a else 1 ∷ has else 1 ∷ undamaged a else 2 ∷ []

-- and then carries out its plan
unfoldable pub answered : List ℕ → Move → Answer
answered a x =
    unless (λ k. refused k a) (call_tests a (has_call (shape_of a) x))
    (carried_out (mover (shape_of a) x) a (plan (shape_of a) (memory a) x))

abbrev pub read_begun : List ℕ → ℕ → Answer
read_begun a r = answered a (read r)

abbrev pub write_begun : List ℕ → Record → Answer
write_begun a v = answered a (write v)

abbrev pub stepped : List ℕ → ℕ → Answer
stepped a p = answered a (step p)

-- the area after some moves
abbrev pub after : List ℕ → List Move → List ℕ
after a [] = a
after a (x ∷ l) = after (answered a x).area l

-- ---- showing a record

-- whether it is the reader's: the area is undamaged, the reader exists, is idle and has finished
abbrev pub own_tests : List ℕ → ℕ → List Bool
own_tests a r =
    is_area a ∷ undamaged a
    ∷ ltb r (readers a) ∷ eqb (memory a (phase r)) 0 ∷ eqb (memory a (finished r)) 1 ∷ []

unfoldable pub is_own : List ℕ → ℕ → Bool
is_own a r = all (own_tests a r)

-- the len words in that reader's desk, or the caller's whole default
unfoldable pub shown : List ℕ → ℕ → Record → Record
shown a r default =
    cond (is_own a r) (words_from a (address (table (shape_of a)) (read_record r 0)) (memory a (len r))) default
