-- The reads that a run's history has are those that the bench prints.
--     got_of, gots, gets_of                        what a deed, events, reads say that was got
--     noted_got, told_gots                         the history of events has the reads that they end
--     events_joined, same_readers                  one list of calls behind another; an accepted call keeps N
--     read_not_ended, write_not_ended              no begin ends anything
--     quiet, writer_quiet                          what ends no read
--     step_got, step_gots, Same, write_same, read_same, move_gots   one move, by what it asks for
-- Assumes nothing.
use mathlib.Core.Logic.{◌≢◌}
use mathlib.Core.Path.{◌≡◌, refl, sym, ap, ◌∙◌}
use mathlib.Core.Bool.{Bool, true, false, cond}
use mathlib.Core.List.{List, [], ◌∷◌, ◌++◌, map, reverse, reverse-cons, append_assoc, append-nil}
use Prim.Native.Nat.{ℕ}
use lib.Dec.{eqb, lit<}
use Rattle.std.proofs.lemmas.List.{map-append}
use Rattle.std.proofs.lemmas.Bool.Decides.{nat_tests}
use native.Mathlib.Omega.{arith}
use Rattle.theory.specs.Place.{Record}
use Rattle.register.specs.Area.{readers as area_readers}
use Rattle.register.specs.Steps.{Move, read, write, step}
use Rattle.register.specs.Calls.{Answer, carried_out, answered, after}
use Rattle.atomic.specs.Seen.{Accepted, none, then, event, events, writer_deed}
use Rattle.theory.specs.History.{Got, Deed, read_began, write_began, went_on, looked, published, read_ended}
use Rattle.theory.specs.History.{write_ended, Event, Read, History, noted, all_noted}
use Rattle.atomic.proofs.Intact.{keeps}
use Rattle.runfile.specs.RunFile.{readers, Written, Asked, values_for, move, asked}
use Rattle.playing.specs.Play.{State, answer_of, call_of}
use Rattle.runs.specs.Promise.{read_got}

-- ---- what the events of a run say that reads got

abbrev pub got_of : Deed → List Got
got_of read_began = []
got_of (write_began v) = []
got_of (went_on k) = []
got_of looked = []
got_of (published ended) = []
got_of (read_ended g) = g ∷ []
got_of write_ended = []

abbrev pub gots : List Event → List Got
gots [] = []
gots (e ∷ l) = got_of e.what ++ gots l

abbrev pub gets_of : List Read → List Got
gets_of l = map (λ r. r.gets) (reverse l)

noted_got : (m : ℕ) (h : History) (p : ℕ) (d : Deed)
    → gets_of (noted m h p d).reads ≡ gets_of h.reads ++ got_of d
noted_got m h p read_began = sym (append-nil _)
noted_got m h p (write_began v) = sym (append-nil _)
noted_got m h p (went_on k) = sym (append-nil _)
noted_got m h p looked = sym (append-nil _)
noted_got m h p (published ended) = sym (append-nil _)
noted_got m h p (read_ended g) =
    ap (map (λ r. r.gets)) (reverse-cons _ h.reads) ∙ map-append (λ r. r.gets) (reverse h.reads) _
noted_got m h p write_ended = sym (append-nil _)

-- the history of events has the reads that they end
pub told_gots : (m : ℕ) (h : History) (l : List Event)
    → gets_of (all_noted m h l).reads ≡ gets_of h.reads ++ gots l
told_gots m h [] = sym (append-nil _)
told_gots m h (e ∷ l) =
    told_gots m (noted m h e.who e.what) l
    ∙ ap (λ y. y ++ gots l) (noted_got m h e.who e.what)
    ∙ append_assoc (gets_of h.reads) (got_of e.what) (gots l)

pub events_joined : (a a' : List ℕ) (l k : List Move) → after a l ≡ a'
    → gots (events a (l ++ k)) ≡ gots (events a l) ++ gots (events a' k)
events_joined a a' [] k e = ap (λ y. gots (events y k)) e
events_joined a a' (x ∷ l) k e =
    ap (λ y. got_of (event a x).what ++ y) (events_joined (answered a x).area a' l k e)
    ∙ sym (append_assoc (got_of (event a x).what) (gots (events (answered a x).area l)) (gots (events a' k)))

-- an accepted call keeps N
pub same_readers : (a : List ℕ) (l : List Move) → Accepted a l → area_readers (after a l) ≡ area_readers a
same_readers a [] none = refl
same_readers a (x ∷ l) (then z rest) =
    same_readers (answered a x).area l rest ∙ ((keeps a x).1 z).head 1 (lit< tt)

-- ---- one move

-- no begin ends anything
read_not_ended : (a : List ℕ) (r : ℕ) → (answered a (read r)).ended ≡ false
unfolding answered carried_out
read_not_ended a r = grind (arith, nat_tests)

write_not_ended : (a : List ℕ) (v : Record) → (answered a (write v)).ended ≡ false
unfolding answered carried_out
write_not_ended a v = grind (arith, nat_tests)

-- a call of which no event ends a read
quiet : (a : List ℕ) (x : Move) (n p : ℕ) (t : Bool) (y : Answer) → got_of (event a x).what ≡ []
    → y.ended ≡ false
    → gots (events a (cond t (x ∷ []) [])) ≡ read_got n p y
quiet a x n p true y e d = grind (arith, nat_tests)
quiet a x n p false y e d = grind (arith, nat_tests)

writer_quiet : (k : ℕ) (x : Answer) → got_of (writer_deed k x) ≡ []
writer_quiet k x = grind (arith, nat_tests)

step_got : (a : List ℕ) (p : ℕ) → got_of (event a (step p)).what ≡ read_got (area_readers a) p
    (answered a (step p))
step_got a p = grind (arith, nat_tests, writer_quiet)

step_gots : (a : List ℕ) (p n : ℕ) → area_readers a ≡ n
    → gots (events a (cond (eqb (answered a (step p)).number 0) (step p ∷ []) []))
    ≡ read_got n p (answered a (step p))
step_gots a p n e = grind (arith, nat_tests, append-nil, step_got a p, refused_so)
  where
    refused_so : (answered a (step p)).number ≢ 0 → (answered a (step p)).ended ≡ false
    refused_so d = ((keeps a (step p)).0 d).ended

module _ (b : List ℕ) (s : State) (w : Written) (kept : area_readers s.area ≡ readers b) where
  abbrev Same : Asked → Type 0
  Same y =
      gots (events s.area (cond (eqb (answer_of b s y).number 0) (call_of b s y) []))
      ≡ read_got (readers b) w.process (answer_of b s y)

  write_same : (k : ℕ) → Same (values_for k)
  write_same k = grind (arith, nat_tests, quiet, write_not_ended)

  read_same : Same (move (read w.process))
  read_same = grind (arith, nat_tests, quiet, read_not_ended)

  pub move_gots : Same (asked (readers b) w)
  move_gots = grind (arith, nat_tests, write_same, read_same, step_gots)
