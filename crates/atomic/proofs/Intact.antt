-- What any call keeps, on any words: the theorem about accepted calls and refusals.
--     keeps                               the theorem
-- Assumes nothing.
use mathlib.Core.Path.{◌≡◌, refl, sym, ap, subst, ◌∙◌}
use mathlib.Core.Logic.{◌≢◌}
use mathlib.Core.Bool.{Bool, true, false, cond, not}
use mathlib.Core.List.{List, [], ◌∷◌}
use Prim.Native.Nat.{ℕ, ◌≤◌, ◌<◌}
use lib.Dec.{eqb, ltb, leb, lit<}
use lib.ListN.{length, get_or}
use Rattle.theory.specs.Place.{Record, Memory, Store, apply}
use Rattle.theory.specs.Table.{address, has, Untouched}
use Rattle.register.specs.Area.{shape_of, phase, len, finished, read_record, writer_phase, writes_ended, most_writes}
use Rattle.register.specs.Area.{readers, memory}
use Rattle.register.specs.Shape.{Shape, table}
use Rattle.theory.specs.Lists.{all, words_from, Each}
use Rattle.register.specs.Steps.{Plan, refuse, accept, sets_phase, begins_write, Move, read, write, step, mover}
use Rattle.register.specs.Calls.{carried_out, answered, is_own, shown}
use Rattle.theory.specs.History.{went_on, looked, published, write_ended}
use Rattle.atomic.specs.Demands.{busy, Intact, Keeps}
use Rattle.theory.proofs.Tests.{each_follows, if_true}
use Rattle.theory.proofs.Places.{row, row_same}
use Rattle.theory.proofs.Tables.{has_it, store_untouched}
use Rattle.atomic.proofs.Moves.{desk_record}
use Rattle.atomic.proofs.Planned.{seen, seen_step}
use Rattle.atomic.proofs.Frames.{desk_word}
use Rattle.atomic.proofs.Others.{busy_in, is_end, works, desk_same, others_same}
use Rattle.register.proofs.Facts.{its_plan, area_facts, whole_area}
use Rattle.atomic.proofs.Called.{Opened, opened, refused_keeps, does, after_is, after_length, after_head}
use Rattle.atomic.proofs.Called.{after_area, after_memory, after_exact, after_whole, after_sound}
use Rattle.atomic.proofs.Observed.{shows_desk}

-- ---- a begin ends nothing; a step's deed is an end if it answered "ended"

abbrev EndsNothing : Plan → Type 0
EndsNothing (refuse k) = Unit {0}
EndsNothing (accept stores ends) = ends ≡ false

begin_ends_nothing : (a : List ℕ) (r : ℕ) → EndsNothing (its_plan a (read r))
begin_ends_nothing a r =
    if_true EndsNothing (ltb r (readers a)) _ (refuse 3)
    (λ x. if_true EndsNothing (eqb (memory a (phase r)) 0) (accept (sets_phase r 1) false) (refuse 5) (λ y. refl)
    (λ y. tt))
    (λ x. tt)

write_ends_nothing : (a : List ℕ) (v : Record) → EndsNothing (its_plan a (write v))
write_ends_nothing a v =
    if_true EndsNothing (leb (length v) (shape_of a).c) _ (refuse 4)
    (λ x.
    if_true EndsNothing (eqb (memory a writer_phase) 0) _ (refuse 5)
    (λ y.
    if_true EndsNothing (ltb (memory a writes_ended) most_writes) (accept (begins_write v) false) (refuse 7)
    (λ z. refl)
    (λ z. tt)) (λ y. tt)) (λ x. tt)

step_ends : (n : ℕ) (m : Memory) (p : ℕ) (ends : Bool) (m' : Memory)
    → is_end (seen n m (step p) ends m') ≡ ends
step_ends n m p ends m' = go (ltb p n) ends
  where
    writer : (s b t : Bool)
        → is_end (cond s (published b) (cond b write_ended (cond t looked (went_on (m writer_phase))))) ≡ b
    writer true b t = refl
    writer false true t = refl
    writer false false true = refl
    writer false false false = refl

    go : (t b : Bool) → is_end (seen_step t m p b m') ≡ b
    go true true = refl
    go true false = refl
    go false b = writer (eqb (m writer_phase) 6) b (eqb (m writer_phase) 1)

seen_end : (a : List ℕ) (x : Move) (o : Opened a x) (m' : Memory)
    → is_end (seen (readers a) (memory a) x o.ends m') ≡ o.ends
seen_end a (read r) o m' = sym (subst EndsNothing o.chosen (begin_ends_nothing a r))
seen_end a (write v) o m' = sym (subst EndsNothing o.chosen (write_ends_nothing a v))
seen_end a (step p) o m' = step_ends (readers a) (memory a) p o.ends m'

-- ---- an accepted call

-- the stores of a plan
abbrev stores_of : Plan → List Store
stores_of (refuse k) = []
stores_of (accept stores ends) = stores

module _ {a : List ℕ} {x : Move} (o : Opened a x) where
  abbrev n : ℕ
  n = readers a

  abbrev shape : Shape
  shape = shape_of a

  abbrev b : List ℕ
  b = (answered a x).area

  abbrev m' : Memory
  m' = apply (memory a) o.stores

  same_ended : (answered a x).ended ≡ o.ends
  unfolding carried_out
  same_ended = ap (λ r. r.ended) o.answers

  -- busy, on the area and on its memory
  busy_after : (p : ℕ) → busy b p ≡ busy_in n m' p
  busy_after p = λ i. busy_in (after_head o 1 (lit< tt) i) (after_memory o i) p

  its_own_work : busy b (mover shape x) ≡ not (answered a x).ended
  its_own_work =
      busy_after (mover shape x) ∙ works (does o).0 ∙ ap not (seen_end a x o m') ∙ ap not (sym same_ended)

  of_others_work : (p : ℕ) → p ≤ n → p ≢ mover shape x → busy b p ≡ busy a p
  of_others_work p l d = busy_after p ∙ others_same (does o).0 p l d

  module _ (r : ℕ) (default : Record) (l : r < n) (d : r ≢ mover shape x) where
    same : (f j : ℕ) → m' (desk_word f r j) ≡ memory a (desk_word f r j)
    same f j = desk_same (does o).0 f r j d

    same_own : is_own b r ≡ is_own a r
    unfolding is_own
    same_own = λ i.
        all
        ((after_area o ∙ sym o.area) i
        ∷ (after_sound o ∙ sym o.sound) i
        ∷ ltb r (after_head o 1 (lit< tt) i)
        ∷ eqb ((ap (λ m. m (phase r)) (after_memory o) ∙ same 0 0) i) 0
        ∷ eqb ((ap (λ m. m (finished r)) (after_memory o) ∙ same 5 0) i) 1
        ∷ [])

    same_record : desk_record m' r ≡ desk_record (memory a) r
    same_record =
        ap (λ k. row k (λ j. m' (read_record r j))) (same 3 0)
        ∙ row_same (memory a (len r)) (λ j. m' (read_record r j)) (λ j. memory a (read_record r j))
        (λ j h. same 6 j)

    same_words : words_from b (address (table (shape_of b)) (read_record r 0)) (memory b (len r))
        ≡ words_from a (address (table (shape_of a)) (read_record r 0)) (memory a (len r))
    same_words =
        shows_desk b r (after_exact o) (subst (λ k. r < k) (sym (after_head o 1 (lit< tt))) l)
        (subst (λ k. memory b (len r) ≤ k) (sym (after_head o 2 (lit< tt))) ((after_whole o).desk r l).words)
        ∙ ap (λ m. desk_record m r) (after_memory o) ∙ same_record
        ∙ sym (shows_desk a r (area_facts a o.area).exact l ((whole_area a o.sound).desk r l).words)

    same_shown : shown b r default ≡ shown a r default
    unfolding shown
    same_shown = λ i. cond (same_own i) (same_words i) default

  intact : Intact a x
  intact =
      record {
        was_area = o.area;
        was_undamaged = o.sound;
        area' = after_area o;
        undamaged' = after_sound o;
        size = after_length o;
        head = after_head o;
        inside = λ stores ends e.
            subst (Each (λ s. has (table (shape_of a)) s.place ≡ true)) (sym (ap stores_of (sym e ∙ o.chosen)))
            (each_follows (λ s own. has_it (table (shape_of a)) s.place own.has) (does o).1);
        others = λ stores ends e i u.
            ap (λ y. get_or y i 0) (after_is o)
            ∙ store_untouched (table (shape_of a)) a o.stores i
            (subst (Untouched (table (shape_of a)) i) (ap stores_of (sym e ∙ o.chosen)) u);
        its_own = its_own_work;
        of_others = of_others_work;
        shows = same_shown;
      }

-- what any call keeps, on any words
pub keeps : Keeps
keeps a x = (refused_keeps a x, λ e. intact (opened a x e))
