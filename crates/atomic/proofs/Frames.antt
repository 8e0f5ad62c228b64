-- What a move leaves alone, by whose move it is, and what is seen of it. What a store more in some step would change
-- outside the desk of its process shows here.
--     desk_word, writer_word              a word of a reader's desk, of the writer's desk
--     RecordKept                          a slot holds the record that it held
--     reader_may, writer_may              where a reader may store, where the writer may
--     ReaderLeaves, reader_leaves         what a reader's move leaves alone
--     WriterLeaves, writer_leaves         what the writer's move leaves alone
--     ReaderSeen, reader_seen, WriterSeen, writer_seen   the deed of a move, and what it says of the memories
-- Assumes nothing.
use mathlib.Core.Path.{◌≡◌, refl, ◌∙◌}
use mathlib.Core.Logic.{◌≢◌}
use mathlib.Core.Bool.{Bool, true, false, cond, ◌&&◌}
use mathlib.Core.List.{List, ◌++◌, map}
use Prim.Native.Nat.{ℕ, ◌-◌, ◌≤◌, ◌<◌}
use native.Mathlib.Omega.{arith}
use lib.Dec.{eqb, leb, leb→le}
use borrow.Author.Tests.{ne_eqb}
use Rattle.theory.specs.Lists.{all}
use Rattle.theory.specs.Place.{Place, Memory, Store, apply}
use Rattle.theory.specs.History.{Got, Deed}
use Rattle.register.specs.Shape.{Shape, limit}
use Rattle.register.specs.Area.{current, index, r_start, r_end, size, slot_write_number, contents, phase, last}
use Rattle.register.specs.Area.{finished, writer_phase, in_hand, old_word}
use Rattle.register.specs.Steps.{sets_phase, unbinds, binds, takes, copies, finishes, sets_out, passes, sizes}
use Rattle.register.specs.Steps.{clears_start, clears_end, publishes, freezes}
use Rattle.register.specs.Calls.{published_writes}
use Rattle.theory.proofs.Tests.{true_passes, both, eqb_same, if_true, if_equal}
use Rattle.theory.proofs.Places.{apply_apart}
use Rattle.theory.proofs.Noted.{OfReader, begins_read, goes_on, ends_read, OfWriter, begins_write, looks_on}
use Rattle.theory.proofs.Noted.{writes_on, publishes_it, ends_write}
use Rattle.atomic.proofs.Moves
use Rattle.atomic.proofs.Moves.{ReaderDoes, WriterDoes, desk_with, to_phase, fills_to}

abbrev pub desk_word : ℕ → ℕ → ℕ → Place
desk_word f r j = record { part = 2; field = f; row = r; column = j }

abbrev pub writer_word : ℕ → ℕ → Place
writer_word f j = record { part = 3; field = f; row = 0; column = j }

-- the record that slot s holds: its size, its write number and its contents
pub record RecordKept (m m' : Memory) (s : ℕ) : Type 0 where
  pub length : m' (size s) ≡ m (size s)
  pub number : m' (slot_write_number s) ≡ m (slot_write_number s)
  pub words : (j : ℕ) → m' (contents s j) ≡ m (contents s j)

-- ---- a reader

-- its own desk; in phase 2 r_end of slot last; in phase 3 current
abbrev reader_may : Memory → ℕ → Place → Bool
reader_may m r q =
    cond (eqb q.part 2) (eqb q.row r)
    (cond (eqb q.part 1)
    (cond (eqb q.field 1) (cond (eqb (m (phase r)) 2) (eqb q.row (m (last r))) false) false)
    (cond (eqb q.part 0) (eqb (m (phase r)) 3) false))

pub record ReaderLeaves (shape : Shape) (m m' : Memory) (r : ℕ) : Type 0 where
  -- every word of the writer's desk and of every other reader's
  pub writer : (f j : ℕ) → m' (writer_word f j) ≡ m (writer_word f j)
  pub desk : (f q j : ℕ) → q ≢ r → m' (desk_word f q j) ≡ m (desk_word f q j)
  -- of every slot its record and r_start, and r_end but for the one that it leaves
  pub held : (s : ℕ) → RecordKept m m' s
  pub start : (s : ℕ) → m' (r_start s) ≡ m (r_start s)
  pub end : (s : ℕ) → (m (phase r) ≡ 2 → s ≢ m (last r)) → m' (r_end s) ≡ m (r_end s)
  -- the current word but in phase 3, and its index always
  pub word : m (phase r) ≢ 3 → m' current ≡ m current
  pub slot : limit shape < 4294967296 → index (m' current) ≡ index (m current)

module _ {shape : Shape} {m : Memory} {r : ℕ} where
  leaves : (stores : List Store) → all (map (λ s. reader_may m r s.place) stores) ≡ true
      → (limit shape < 4294967296 → index (apply m stores current) ≡ index (m current))
      → ReaderLeaves shape m (apply m stores) r
  leaves stores own slot =
      record {
        writer = λ f j. rest (writer_word f j) refl;
        desk = λ f q j d. rest (desk_word f q j) (ne_eqb q r d);
        held = λ s.
            record {
              length = rest (size s) refl;
              number = rest (slot_write_number s) refl;
              words = λ j. rest (contents s j) refl;
            };
        start = λ s. rest (r_start s) refl;
        end = λ s d.
            rest (r_end s)
            (if_equal (λ x. x ≡ false) (m (phase r)) 2 _ false (λ e. ne_eqb s (m (last r)) (d e)) (λ e. refl));
        word = λ d. rest current (ne_eqb (m (phase r)) 3 d);
        slot = slot;
      }
    where
      rest : (q : Place) → reader_may m r q ≡ false → apply m stores q ≡ m q
      rest = apply_apart (reader_may m r) m stores own

  pub reader_leaves : {d : Deed} {m' : Memory} → ReaderDoes shape m r d m' → ReaderLeaves shape m m' r
  reader_leaves (Moves.read_starts e) = leaves (sets_phase r 1) (rw (eqb_same r)) (λ big. refl)
  reader_leaves (Moves.finds_same e x) = leaves (sets_phase r 4) (rw (eqb_same r)) (λ big. refl)
  reader_leaves (Moves.finds_other e x) = leaves (sets_phase r 2) (rw (eqb_same r)) (λ big. refl)
  reader_leaves (Moves.leaves_slot e x) =
      leaves (unbinds m r) (rw (e, eqb_same (m (last r)), eqb_same r)) (λ big. refl)
  reader_leaves (Moves.joins_slot e x) = leaves (binds m r) (rw (e, eqb_same r)) (λ big. omega arith)
  reader_leaves (Moves.takes_none e x) = leaves (takes m r ++ finishes r) (rw (eqb_same r)) (λ big. refl)
  reader_leaves (Moves.takes_size e x) = leaves (takes m r ++ sets_phase r 5) (rw (eqb_same r)) (λ big. refl)
  reader_leaves (Moves.copies_word e x) = leaves (copies m r) (rw (eqb_same r)) (λ big. refl)
  reader_leaves (Moves.copies_last e x) = leaves (copies m r ++ finishes r) (rw (eqb_same r)) (λ big. refl)

-- a read that ended: its reader rests and has finished; the record is its own, and its age what the memory says
pub record ReadEnded (m m' : Memory) (r : ℕ) (g : Got) : Type 0 where
  pub rests : m' (phase r) ≡ 0
  pub flag : m' (finished r) ≡ 1
  pub own : g.own ≡ true
  pub age : g.age ≡ published_writes m - g.number

abbrev pub ReaderSeen : Memory → Memory → ℕ → Deed → Type 0
ReaderSeen m m' r = OfReader (m' (phase r) ≢ 0) (ReadEnded m m' r)

pub reader_seen : {shape : Shape} {m : Memory} {r : ℕ} {d : Deed} {m' : Memory} → ReaderDoes shape m r d m'
    → ReaderSeen m m' r d
reader_seen {r = r} (Moves.read_starts e) = begins_read (rw (eqb_same r) (λ z. omega arith))
reader_seen {r = r} (Moves.finds_same e x) = goes_on (rw (eqb_same r) (λ z. omega arith))
reader_seen {r = r} (Moves.finds_other e x) = goes_on (rw (eqb_same r) (λ z. omega arith))
reader_seen {r = r} (Moves.leaves_slot e x) = goes_on (rw (eqb_same r) (λ z. omega arith))
reader_seen {r = r} (Moves.joins_slot e x) = goes_on (rw (eqb_same r) (λ z. omega arith))
reader_seen {r = r} (Moves.takes_none e x) =
    ends_read (record { rests = rw (eqb_same r); flag = rw (eqb_same r); own = refl; age = refl })
reader_seen {r = r} (Moves.takes_size e x) = goes_on (rw (eqb_same r) (λ z. omega arith))
reader_seen (Moves.copies_word e x) = goes_on (λ z. omega arith)
reader_seen {r = r} (Moves.copies_last e x) =
    ends_read (record { rests = rw (eqb_same r); flag = rw (eqb_same r); own = refl; age = refl })

-- ---- the writer

-- its own desk; in phases 2 to 5 the slot in hand; in phase 6 current; in phase 7 r_start of the old word's slot
abbrev writer_may : Memory → Place → Bool
writer_may m q =
    cond (eqb q.part 1)
    (cond (leb 2 (m writer_phase) && leb (m writer_phase) 5) (eqb q.row (m in_hand))
    (cond (eqb (m writer_phase) 7) (cond (eqb q.field 0) (eqb q.row (index (m old_word))) false) false))
    (cond (eqb q.part 0) (eqb (m writer_phase) 6) (eqb q.part 3))

-- the writer is not filling slot s
abbrev pub Unfilled : Memory → ℕ → Type 0
Unfilled m s = 2 ≤ m writer_phase → m writer_phase ≤ 5 → s ≢ m in_hand

pub record WriterLeaves (m m' : Memory) : Type 0 where
  -- every word of every reader's desk
  pub desk : (f q j : ℕ) → m' (desk_word f q j) ≡ m (desk_word f q j)
  -- the current word but in phase 6
  pub word : m writer_phase ≢ 6 → m' current ≡ m current
  -- of every slot that it is not filling all words, but r_start of the old word's slot in phase 7
  pub held : (s : ℕ) → Unfilled m s → RecordKept m m' s
  pub start : (s : ℕ) → Unfilled m s → (m writer_phase ≡ 7 → s ≢ index (m old_word))
      → m' (r_start s) ≡ m (r_start s)
  pub end : (s : ℕ) → Unfilled m s → m' (r_end s) ≡ m (r_end s)

module _ {m : Memory} where
  -- from memory k, which differs from m in the writer's desk alone
  leaves_from : (k : Memory) → ((q : Place) → eqb q.part 3 ≡ false → k q ≡ m q) → (stores : List Store)
      → all (map (λ s. writer_may m s.place) stores) ≡ true → WriterLeaves m (apply k stores)
  leaves_from k same stores own =
      record {
        desk = λ f q j. rest (desk_word f q j) refl refl;
        word = λ d. rest current (ne_eqb (m writer_phase) 6 d) refl;
        held = λ s d.
            record {
              length = rest (size s) (unfilled s d false (λ e. refl)) refl;
              number = rest (slot_write_number s) (unfilled s d false (λ e. refl)) refl;
              words = λ j. rest (contents s j) (unfilled s d false (λ e. refl)) refl;
            };
        start = λ s d old. rest (r_start s) (unfilled s d _ (λ e. ne_eqb s (index (m old_word)) (old e))) refl;
        end = λ s d. rest (r_end s) (unfilled s d false (λ e. refl)) refl;
      }
    where
      rest : (q : Place) → writer_may m q ≡ false → eqb q.part 3 ≡ false → apply k stores q ≡ m q
      rest q spared away = apply_apart (writer_may m) k stores own q spared ∙ same q away

      -- of a slot that it is not filling, where the test of phase 7 comes to b
      unfilled : (s : ℕ) → Unfilled m s → (b : Bool) → (m writer_phase ≡ 7 → b ≡ false)
          → cond (leb 2 (m writer_phase) && leb (m writer_phase) 5) (eqb s (m in_hand))
          (cond (eqb (m writer_phase) 7) b false)
          ≡ false
      unfilled s d b old =
          if_true (λ x. x ≡ false) (leb 2 (m writer_phase) && leb (m writer_phase) 5) _ _
          (λ e.
          let (lo, hi) = both (leb 2 (m writer_phase)) (leb (m writer_phase) 5) (true_passes _ e) in
          ne_eqb s (m in_hand) (d (leb→le _ _ lo) (leb→le _ _ hi)))
          (λ e. if_equal (λ x. x ≡ false) (m writer_phase) 7 b false old (λ z. refl))

  leaves_all : (stores : List Store) → all (map (λ s. writer_may m s.place) stores) ≡ true
      → WriterLeaves m (apply m stores)
  leaves_all = leaves_from m (λ q e. refl)

  pub writer_leaves : {shape : Shape} {d : Deed} {m' : Memory} → WriterDoes shape m d m' → WriterLeaves m m'
  writer_leaves (Moves.write_starts v l e more) = leaves_from (desk_with m v) (λ q away. rw away) (sets_out v) refl
  writer_leaves (Moves.picks_empty e d x y) = leaves_all (to_phase 3) refl
  writer_leaves (Moves.picks_slot e d x y) = leaves_all (to_phase 2) refl
  writer_leaves (Moves.passes_slot e d x) = leaves_all (passes m) refl
  writer_leaves (Moves.fills_word e x) = leaves_all (fills_to m 2) (rw (e, eqb_same (m in_hand)))
  writer_leaves (Moves.fills_last e x) = leaves_all (fills_to m 3) (rw (e, eqb_same (m in_hand)))
  writer_leaves (Moves.sets_size e) = leaves_all (sizes m) (rw (e, eqb_same (m in_hand)))
  writer_leaves (Moves.clears_first e) = leaves_all (clears_start m) (rw (e, eqb_same (m in_hand)))
  writer_leaves (Moves.clears_second e) = leaves_all (clears_end m) (rw (e, eqb_same (m in_hand)))
  writer_leaves (Moves.exchanges e) = leaves_all (publishes m) (rw e)
  writer_leaves (Moves.write_ends e) = leaves_all (freezes m) (rw (e, eqb_same (index (m old_word))))

-- the writer goes on, publishes, ends: its phases before and after, and the slot that it publishes
pub record WriterGoes (m m' : Memory) : Type 0 where
  pub before : m writer_phase < 6
  pub busy : m' writer_phase ≢ 0
  pub untold : m' writer_phase ≢ 7

pub record WriterPublishes (m m' : Memory) : Type 0 where
  pub before : m writer_phase ≡ 6
  pub after : m' writer_phase ≡ 7
  pub slot : index (m' current) ≡ m in_hand

pub record WriterEnds (m m' : Memory) : Type 0 where
  pub before : m writer_phase ≡ 7
  pub after : m' writer_phase ≡ 0

abbrev pub WriterSeen : Memory → Memory → Deed → Type 0
WriterSeen m m' = OfWriter (WriterGoes m m') (WriterPublishes m m') (WriterEnds m m')

goes : {m m' : Memory} → m writer_phase < 6 → m' writer_phase ≢ 0 → m' writer_phase ≢ 7
    → WriterGoes m m'
goes before busy untold = record { before = before; busy = busy; untold = untold }

pub writer_seen : {shape : Shape} {m m' : Memory} {d : Deed} → WriterDoes shape m d m' → WriterSeen m m' d
writer_seen (Moves.write_starts v l e more) = begins_write (goes (omega arith) (λ z. omega arith) (λ z. omega arith))
writer_seen (Moves.picks_empty e d x y) = looks_on (goes (omega arith) (λ z. omega arith) (λ z. omega arith))
writer_seen (Moves.picks_slot e d x y) = looks_on (goes (omega arith) (λ z. omega arith) (λ z. omega arith))
writer_seen (Moves.passes_slot e d x) = looks_on (goes (omega arith) (λ z. omega arith) (λ z. omega arith))
writer_seen (Moves.fills_word e x) = writes_on (goes (omega arith) (λ z. omega arith) (λ z. omega arith))
writer_seen (Moves.fills_last e x) = writes_on (goes (omega arith) (λ z. omega arith) (λ z. omega arith))
writer_seen (Moves.sets_size e) = writes_on (goes (omega arith) (λ z. omega arith) (λ z. omega arith))
writer_seen (Moves.clears_first e) = writes_on (goes (omega arith) (λ z. omega arith) (λ z. omega arith))
writer_seen (Moves.clears_second e) = writes_on (goes (omega arith) (λ z. omega arith) (λ z. omega arith))
writer_seen (Moves.exchanges e) = publishes_it (record { before = e; after = refl; slot = omega arith })
writer_seen (Moves.write_ends e) = ends_write (record { before = e; after = refl })
