-- Demand 3 and all that goes with it, over the calls: a run keeps everything, and what it keeps is the promise.
--     Good                                what a run keeps
--     whole, guarded                      what it says of the memory
--     moves_all_noted                     a history counts all moves
--     next_good                           it keeps it over one accepted move
--     run_begins_good, run_ends_good      it has it at the beginning, and at the end
--     demand_3                            the theorem
-- Assumes nothing.
use mathlib.Core.Path.{◌≡◌, sym, ap, subst, ◌∙◌}
use mathlib.Core.Logic.{inl, inr}
use mathlib.Core.Bool.{true, ◌&&◌}
use mathlib.Core.List.{List, [], ◌∷◌}
use Prim.Native.Nat.{ℕ, ◌+◌, ◌≤◌, ◌<◌}
use native.Mathlib.Omega.{arith}
use lib.ListN.{length}
use Rattle.theory.specs.Place.{Record, Memory, apply}
use Rattle.register.specs.Shape.{Shape, known_form, in_range}
use Rattle.register.specs.Area.{shape_of, is_area, memory, undamaged}
use Rattle.register.specs.Calls.{fresh, answered, after}
use Rattle.register.specs.Steps.{Move}
use Rattle.atomic.specs.Seen.{Accepted, none, then, event, events}
use Rattle.theory.specs.History.{Read, History, noted, all_noted, nothing_yet}
use Rattle.atomic.specs.Demands.{Run, beginning, now, told, Promise, Demand3}
use Rattle.theory.proofs.Tests.{each_follows}
use Rattle.theory.proofs.Noted.{beside}
use Rattle.register.proofs.Facts.{whole_area}
use Rattle.atomic.proofs.Moves.{Does}
use Rattle.atomic.proofs.Counting.{Counted, keeps_counts}
use Rattle.atomic.proofs.Clean.{Clean, stays_clean, guards}
use Rattle.atomic.proofs.Guarded.{Guarded}
use Rattle.theory.proofs.Lining.{in_line}
use Rattle.atomic.proofs.Told.{Told}
use Rattle.atomic.proofs.Telling.{tells}
use Rattle.atomic.proofs.Bounds.{ReadExact, Bounded, keeps_bounds}
use Rattle.atomic.proofs.Dates.{Dated, keeps_dates}
use Rattle.register.specs.Conditions.{InRange, Whole}
use Rattle.atomic.proofs.Called.{Opened, opened, does, after_shape, after_area, after_memory, after_sound}
use Rattle.atomic.proofs.Observed.{observed}
use Rattle.atomic.proofs.Made.{made_well, fresh_memory, fresh_sound}
use Rattle.atomic.proofs.Making.{first_memory, fresh_shape, fresh_area, first_counted, first_told}
use Rattle.atomic.proofs.Making.{first_bounded, first_dated, first_clean}

-- ---- what a run keeps

-- the area a after the history h of a run of `all_moves` moves that began with `first`
pub record Good (shape : Shape) (first : Record) (all_moves : ℕ) (a : List ℕ) (h : History) : Type 0 where
  pub area : is_area a ≡ true
  pub sound : undamaged a ≡ true
  pub its_shape : shape_of a ≡ shape
  pub counted : Counted shape (memory a)
  pub clean : Clean shape.n (memory a)
  pub told : Told shape.n first (memory a) h
  pub bounded : Bounded shape first all_moves (memory a) h
  pub dated : Dated all_moves (memory a) h

module _ {shape : Shape} {first : Record} {all_moves : ℕ} {a : List ℕ} {h : History}
    (g : Good shape first all_moves a h) where
  pub whole : Whole shape (memory a)
  whole = subst (λ k. Whole k (memory a)) g.its_shape (whole_area a g.sound)

  -- what the counts hand upwards: nothing else is asked of them
  pub guarded : Guarded shape (memory a)
  guarded = guards g.counted g.clean whole

pub moves_all_noted : (all_moves : ℕ) (a : List ℕ) (l : List Move) (h : History)
    → (all_noted all_moves h (events a l)).moves ≡ h.moves + length l
moves_all_noted all_moves a [] h = omega arith
moves_all_noted all_moves a (x ∷ l) h =
    let h' = noted all_moves h (event a x).who (event a x).what in
    moves_all_noted all_moves (answered a x).area l h'
    ∙ omega (arith, (beside all_moves h (event a x).who (event a x).what).moves)

module _ (shape : Shape) (first : Record) (range : InRange shape) where
  big : shape.n < 4294967296
  big = omega (arith, range.few_readers)

  -- at the beginning
  first_good : (all_moves : ℕ) → known_form shape.form && in_range shape ≡ true → length first ≤ shape.c
      → Good shape first all_moves (fresh shape first) nothing_yet
  first_good all_moves taken short =
      record {
        area = fresh_area shape first short taken;
        sound = fresh_sound shape first range short;
        its_shape = fresh_shape shape first short;
        counted = rw same (first_counted shape first big);
        clean = rw same (first_clean shape first big);
        told = rw same (first_told shape first big);
        bounded = rw same (first_bounded shape first big all_moves);
        dated = rw same (first_dated shape first big all_moves);
      }
    where
      same : memory (fresh shape first) ≡ first_memory shape first
      same = fresh_memory shape first range short

  -- one accepted move
  module _ {all_moves : ℕ} {a : List ℕ} {h : History} (g : Good shape first all_moves a h) (x : Move)
      (accepted : (answered a x).number ≡ 0) (in_time : h.moves < all_moves) where
    o : Opened a x
    o = opened a x accepted

    abbrev m' : Memory
    m' = apply (memory a) o.stores

    -- the move of the relation, at the run's shape
    move : Does shape (memory a) (event a x) m'
    move =
        subst (λ k. Does k (memory a) (event a x) m') g.its_shape
        (subst (λ e. Does (shape_of a) (memory a) e m') (sym (observed a x o)) (does o).0)

    pub next_good : Good shape first all_moves (answered a x).area
        (noted all_moves h (event a x).who (event a x).what)
    next_good =
        record {
          area = after_area o;
          sound = after_sound o;
          its_shape = after_shape o ∙ g.its_shape;
          counted = rw same (keeps_counts shape big g.counted move);
          clean = rw same (stays_clean shape big g.counted g.clean move);
          told = rw same (tells shape first big all_moves (guarded g) g.told in_time move);
          bounded = rw same (keeps_bounds shape first all_moves g.bounded (guarded g) g.told move);
          dated = rw same (keeps_dates shape first all_moves g.told g.dated in_time move);
        }
      where
        same : memory (answered a x).area ≡ m'
        same = after_memory o

  -- all accepted moves
  run_good : {all_moves : ℕ} (a : List ℕ) (l : List Move) (h : History) → Accepted a l → h.moves + length l
      ≡ all_moves
      → Good shape first all_moves a h → Good shape first all_moves (after a l) (all_noted all_moves h (events a l))
  run_good a [] h none e g = g
  run_good {all_moves = all_moves} a (x ∷ l) h (then z rest) e g =
      run_good (answered a x).area l (noted all_moves h (event a x).who (event a x).what) rest
      (ap (λ k. k + length l) (beside all_moves h (event a x).who (event a x).what).moves ∙ omega arith)
      (next_good g x z (omega arith))

-- the state at the beginning of a run, and at its end
pub run_begins_good : (u : Run) → Good u.shape u.first (length u.moves) (beginning u) nothing_yet
run_begins_good u =
    let w = made_well u.shape u.first u.slice u.made_well in
    rw w.area (first_good u.shape u.first w.range (length u.moves) w.taken w.short)

pub run_ends_good : (u : Run) → Good u.shape u.first (length u.moves) (now u) (told u)
run_ends_good u =
    let w = made_well u.shape u.first u.slice u.made_well in
    run_good u.shape u.first w.range (beginning u) u.moves nothing_yet u.accepted (omega arith)
    (run_begins_good u)

-- ---- demand 3

read_within : (x : Read) → ReadExact x → x.steps ≤ length x.gets.shows + 4
read_within x (inl e) = omega arith
read_within x (inr e) = omega arith

pub demand_3 : Demand3
demand_3 u = kept (run_ends_good u)
  where
    kept : Good u.shape u.first (length u.moves) (now u) (told u)
        → Promise u.shape.n u.first (length u.moves) (told u)
    kept g =
        record {
          line = in_line u.first (told u) g.told.sound;
          looks = each_follows (λ w b. b.looks) g.bounded.writes;
          writes = each_follows (λ w b. b.most) g.bounded.writes;
          reads = each_follows read_within g.bounded.reads;
          write_steps = each_follows (λ w b. b.exact) g.bounded.writes;
          read_steps = g.bounded.reads;
          own = each_follows (λ x b. b.own) g.dated.ages;
          ages = each_follows (λ x b. b.age) g.dated.ages;
        }
