-- What the history sees of an accepted call is what the call did.
--     Says, says                          what each deed says of the memories before and after
--     shows_desk                          the record that showing gives is the one in the desk
--     same_ended                          a step answers "ended" where its plan ends
--     still, age_before                   a step that ended a read: its reader is one, its age
--     observed                            the event of an accepted call is that of its move
-- Assumes nothing.
use mathlib.Core.Path.{◌≡◌, refl, sym, ap, subst, ◌∙◌}
use mathlib.Core.Bool.{Bool, true, false, cond, ◌&&◌}
use mathlib.Core.List.{List, []}
use Prim.Native.Nat.{ℕ, ◌+◌, ◌-◌, ◌≤◌, ◌<◌}
use native.Mathlib.Nat.{mul-le-mul_right}
use native.Mathlib.Omega.{arith}
use lib.Dec.{ltb, ltb→lt, lt→ltb, lit<}
use lib.ListN.{length, get_or}
use borrow.Author.Tests.{eq-eqb, lt-ltb}
use Rattle.theory.specs.Place.{Memory, apply}
use Rattle.theory.specs.Table.{total, address, width}
use Rattle.register.specs.Area.{shape_of, phase, len, finished, desk_write_number, read_record, writer_phase}
use Rattle.register.specs.Area.{readers, memory}
use Rattle.register.specs.Shape.{Shape, table}
use Rattle.register.specs.Calls.{published_writes, age_of, carried_out, stepped, own_tests, is_own, shown}
use Rattle.theory.specs.Lists.{words_from, none, also}
use Rattle.atomic.specs.Seen.{got, reader_deed, writer_deed, event}
use Rattle.theory.specs.History.{Deed, Event, read_began, write_began, went_on, looked, published, read_ended}
use Rattle.theory.specs.History.{write_ended}
use Rattle.register.specs.Steps.{Move, read, write, step, mover}
use Rattle.theory.proofs.Tests.{passed, true_passes, all_pass}
use Rattle.theory.proofs.Places.{row_same}
use Rattle.theory.proofs.Tables.{view_here, words_row}
use Rattle.register.proofs.Body.{body_read_record}
use Rattle.theory.proofs.Noted.{begins_read, goes_on, ends_read, begins_write, looks_on, writes_on, publishes_it}
use Rattle.theory.proofs.Noted.{ends_write}
use Rattle.atomic.proofs.Moves.{Does, by_reader, by_writer, by, desk_record}
use Rattle.atomic.proofs.Frames.{reader_leaves, ReaderSeen, reader_seen, WriterSeen, writer_seen}
use Rattle.atomic.proofs.Planned.{seen, seen_got, seen_reader, seen_writer}
use Rattle.atomic.proofs.Called.{Opened, does, after_head, after_area, after_view, after_memory, after_exact}
use Rattle.atomic.proofs.Called.{after_whole, after_sound}

-- what a deed of process p says of the memories before and after: a reader that begins is one of the n, one whose read
-- has ended is idle and has finished, and published nothing; a publication ends nothing, and a write ends in phase 7
abbrev pub Says : ℕ → ℕ → Deed → Memory → Memory → Type 0
Says n p read_began m m' = p < n
Says n p (write_began v) m m' = Unit {0}
Says n p (went_on k) m m' = Unit {0}
Says n p looked m m' = Unit {0}
Says n p (published ended) m m' = ended ≡ false
Says n p (read_ended g) m m' =
    (m' (phase p) ≡ 0) × (m' (finished p) ≡ 1) × (published_writes m' ≡ published_writes m)
Says n p write_ended m m' = m writer_phase ≡ 7

reader_says : {n p : ℕ} {m m' : Memory} {d : Deed} → p < n → published_writes m' ≡ published_writes m
    → ReaderSeen m m' p d → Says n p d m m'
reader_says l same (begins_read x) = l
reader_says l same (goes_on x) = tt
reader_says l same (ends_read x) = (x.rests, x.flag, same)

writer_says : (n p : ℕ) {m m' : Memory} {d : Deed} → WriterSeen m m' d → Says n p d m m'
writer_says n p (begins_write x) = tt
writer_says n p (looks_on x) = tt
writer_says n p (writes_on x) = tt
writer_says n p (publishes_it x) = refl
writer_says n p (ends_write x) = x.before

pub says : {shape : Shape} {m m' : Memory} {e : Event} → Does shape m e m'
    → Says shape.n e.who e.what m m'
says (by_reader l x) =
    let f = reader_leaves x in
    reader_says l (rw (f.writer 6 0, f.writer 0 0)) (reader_seen x)
says {shape} (by_writer x) = writer_says shape.n shape.n (writer_seen x)

-- the record that showing gives is the one in the desk
pub shows_desk : (a : List ℕ) (r : ℕ) → length a ≡ total (table (shape_of a)) → r < readers a
    → memory a (len r) ≤ (shape_of a).c
    → words_from a (address (table (shape_of a)) (read_record r 0)) (memory a (len r)) ≡ desk_record (memory a) r
shows_desk a r e l k =
    words_row a start (memory a (len r)) (omega (arith, e, mul-le-mul_right (width (table (shape_of a)) 2) l, k))
    ∙ row_same (memory a (len r)) (λ j. get_or a (start + j) 0) (λ j. memory a (read_record r j)) word
  where
    start : ℕ
    start = address (table (shape_of a)) (read_record r 0)

    word : (j : ℕ) → j < memory a (len r) → get_or a (start + j) 0 ≡ memory a (read_record r j)
    word j h =
        let here : start + j ≡ address (table (shape_of a)) (read_record r j) = omega arith in
        let there = body_read_record (shape_of a) r j l (omega (arith, h, k)) in
        ap (λ i. get_or a i 0) here ∙ sym (view_here (table (shape_of a)) a (read_record r j) there.has)

-- ---- a step of reader p that ended its read

module _ (a : List ℕ) (p : ℕ) (o : Opened a (step p)) where
  abbrev m' : Memory
  m' = apply (memory a) o.stores

  abbrev b : List ℕ
  b = (stepped a p).area

  pub same_ended : (stepped a p).ended ≡ o.ends
  unfolding carried_out
  same_ended = ap (λ r. r.ended) o.answers

  module _ (l : p < readers a) (e : o.ends ≡ true) where
    reader_rests : (m' (phase p) ≡ 0) × (m' (finished p) ≡ 1)
        × (published_writes m' ≡ published_writes (memory a))
    reader_rests =
        let deed : seen (readers a) (memory a) (step p) o.ends m' ≡ read_ended (seen_got m' p) =
        rw (lt-ltb p (readers a) l, e) in
        subst (λ d. Says (readers a) p d (memory a) m') deed (says (does o).0)

    pub still : p < readers b
    still = subst (λ k. p < k) (sym (after_head o 1 (lit< tt))) l

    own_record : is_own b p ≡ true
    unfolding is_own
    own_record =
        passed _
        (all_pass (own_tests b p)
        (also (true_passes _ (after_area o))
        (also (true_passes _ (after_sound o))
        (also (lt→ltb _ _ still)
        (also (true_passes _ (eq-eqb _ _ (ap (λ m. m (phase p)) (after_memory o) ∙ reader_rests.0)))
        (also (true_passes _ (eq-eqb _ _ (ap (λ m. m (finished p)) (after_memory o) ∙ reader_rests.1)))
        none))))))

    shows_record : shown b p [] ≡ desk_record m' p
    unfolding shown
    shows_record =
        ap (λ t. cond t (words_from b (address (table (shape_of b)) (read_record p 0)) (memory b (len p))) [])
        own_record
        ∙ shows_desk b p (after_exact o) still few
        ∙ ap (λ m. desk_record m p) (after_memory o)
      where
        few : memory b (len p) ≤ (shape_of b).c
        few = subst (λ k. memory b (len p) ≤ k) (sym (after_head o 2 (lit< tt))) ((after_whole o).desk p l).words

    same_age : (stepped a p).age ≡ age_of m' p
    unfolding carried_out
    same_age =
        ap (λ r. r.age) o.answers
        ∙ (λ i. cond (e i && lt-ltb p (readers a) l i) (age_of (after_view o i) p) 0)

    -- over the memory before the step, but for the write number
    pub age_before : (stepped a p).age ≡ published_writes (memory a) - m' (desk_write_number p)
    age_before = same_age ∙ ap (λ k. k - m' (desk_write_number p)) reader_rests.2

    same_got : got p (stepped a p) ≡ seen_got m' p
    same_got = λ i. record {
      age = same_age i;
      number = after_memory o i (desk_write_number p);
      own = own_record i;
      shows = shows_record i;
    }

  reader_observed : p < readers a → reader_deed p (memory a (phase p)) (stepped a p)
      ≡ seen_reader (memory a) p o.ends m'
  reader_observed l = ap Seen same_ended ∙ go o.ends refl
    where
      Seen : Bool → Deed
      Seen ends = cond ends (read_ended (got p (stepped a p))) (went_on (memory a (phase p)))

      go : (t : Bool) → o.ends ≡ t
          → Seen t ≡ cond t (read_ended (seen_got m' p)) (went_on (memory a (phase p)))
      go true e = ap read_ended (same_got l e)
      go false e = refl

-- ---- every accepted call

pub observed : (a : List ℕ) (x : Move) (o : Opened a x)
    → event a x ≡ by (mover (shape_of a) x) (seen (readers a) (memory a) x o.ends (apply (memory a) o.stores))
observed a (read r) o = refl
observed a (write v) o = refl
observed a (step p) o = λ i. record { who = p; what = what i }
  where
    what : (event a (step p)).what ≡ seen (readers a) (memory a) (step p) o.ends (apply (memory a) o.stores)
    what = go (ltb p (readers a)) refl
      where
        go : (t : Bool) → ltb p (readers a) ≡ t
            → cond t (reader_deed p (memory a (phase p)) (stepped a p))
            (writer_deed (memory a writer_phase) (stepped a p))
            ≡ cond t (seen_reader (memory a) p o.ends (apply (memory a) o.stores))
            (seen_writer (memory a writer_phase) o.ends)
        go true e = reader_observed a p o (ltb→lt p (readers a) (true_passes _ e))
        go false e = ap (seen_writer (memory a writer_phase)) (same_ended a p o)
