-- A sound history can be put in one line: the line of `Inserting` turned round, so that the oldest stands first,
-- with the starting record ahead of all. Assumes nothing.
use mathlib.Core.Path.{◌≡◌, refl}
use mathlib.Core.List.{List, [], ◌∷◌, reverse_aux, reverse}
use Prim.Native.Nat.{ℕ, suc, ◌≤◌, ◌<◌, zero-le, suc-le-suc}
use native.Mathlib.Nat.{le_refl, le_trans}
use native.Mathlib.Omega.{arith}
use lib.ListN.{length}
use Rattle.theory.specs.Place.{Record}
use Rattle.theory.specs.History.{Write, History}
use Rattle.theory.specs.Line.{Operation, start, reading, writing, began, ended, Reordered, empty, keep, swap}
use Rattle.theory.specs.Line.{twice, At, here, behind, Gives, done, from_start, to_read, from_write}
use Rattle.theory.specs.Line.{writes_of, Line}
use Rattle.theory.proofs.Placed.{newest, Sound}
use Rattle.theory.proofs.Inserting.{Lined, nothing, with_read, with_write, same, all_put_in}

-- ---- a list turned round is the same list in another order

reordered_behind : {k j : List Operation} (l : List Operation) → Reordered k j
    → Reordered (reverse_aux l k) (reverse_aux l j)
reordered_behind [] r = r
reordered_behind (x ∷ l) r = reordered_behind l (keep r)

moved_behind : (x : Operation) (l k : List Operation) → Reordered (x ∷ reverse_aux l k) (reverse_aux l (x ∷ k))
moved_behind x [] k = same (x ∷ k)
moved_behind x (y ∷ l) k = twice (moved_behind x l (y ∷ k)) (reordered_behind l swap)

turned_whole : (l : List Operation) → Reordered l (reverse l)
turned_whole [] = empty
turned_whole (x ∷ l) = twice (keep (turned_whole l)) (moved_behind x l [])

-- ---- moments put a line in order

-- oldest first, each operation has a moment from its begin to its end, none sooner than the one ahead of it, and
-- the first no sooner than `soonest`
pub data Rising : ℕ → List Operation → Type 0 where
  no_more : {soonest : ℕ} → Rising soonest []
  next : {soonest : ℕ} {x : Operation} {l : List Operation} (moment : ℕ) → soonest ≤ moment
      → began x ≤ moment → moment ≤ ended x → Rising moment l → Rising soonest (x ∷ l)

sooner : {soonest soonest' : ℕ} {l : List Operation} → soonest' ≤ soonest → Rising soonest l
    → Rising soonest' l
sooner h no_more = no_more
sooner h (next moment a b c rest) = next moment (le_trans h a) b c rest

-- one more operation ahead
ahead : {latest : ℕ} {x : Operation} {l : List Operation} (moment : ℕ) → moment ≤ latest → began x ≤ moment
    → moment ≤ ended x → Rising latest l → Rising moment (x ∷ l)
ahead moment a b c r = next moment (le_refl moment) b c (sooner a r)

-- nothing in it ended before the soonest moment
none_ended : {soonest i : ℕ} {x : Operation} {l : List Operation} → Rising soonest l → At x l i
    → soonest ≤ ended x
none_ended no_more p = elim p [ ]
none_ended (next moment a b c rest) here = le_trans a c
none_ended (next moment a b c rest) (behind p) = le_trans a (none_ended rest p)

-- what ended before another began stands ahead of it
pub in_order : {soonest i j : ℕ} {x y : Operation} {l : List Operation} → Rising soonest l → At x l i → At y l j
    → ended x < began y → i < j
in_order no_more p q h = elim p [ ]
in_order (next moment a b c rest) here here h = absurd (omega arith)
in_order (next moment a b c rest) here (behind q) h = suc-le-suc zero-le
in_order (next moment a b c rest) (behind p) here h = absurd (omega (arith, none_ended rest p))
in_order (next moment a b c rest) (behind p) (behind q) h = suc-le-suc (in_order rest p q h)

-- ---- a line, newest first, turned round ahead of a list k; move number m is at moment m + 1

module _ {first : Record} {t : ℕ} where
  turned_rising : {latest : ℕ} {all : List Write} {l k : List Operation} → Lined first t latest all l
      → Rising (suc latest) k → Rising 0 (reverse_aux l k)
  turned_rising nothing r = sooner zero-le r
  turned_rising (with_read moment a b c d k e rest) r =
      turned_rising rest (ahead (suc moment) (suc-le-suc a) (suc-le-suc b) (suc-le-suc c) r)
  turned_rising (with_write {w = w} a b c rest) r =
      turned_rising rest (ahead (suc w.publication) (suc-le-suc a) (suc-le-suc b) (suc-le-suc c) r)

  turned_gives : {latest : ℕ} {all : List Write} {l k : List Operation} → Lined first t latest all l
      → Gives (length all) (newest first all) k → Gives 0 first (reverse_aux l k)
  turned_gives nothing g = g
  turned_gives (with_read moment a b c d n e rest) g = turned_gives rest (to_read n e g)
  turned_gives (with_write a b c rest) g = turned_gives rest (from_write g)

  -- the writes of the line, turned round, are those of the history
  turned_writes : {latest : ℕ} {all : List Write} {l : List Operation} → Lined first t latest all l
      → (k : List Operation) → writes_of (reverse_aux l k) ≡ reverse_aux all (writes_of k)
  turned_writes nothing k = refl
  turned_writes (with_read {x = x} moment a b c d n e rest) k = turned_writes rest (reading x ∷ k)
  turned_writes (with_write {w = w} a b c rest) k = turned_writes rest (writing w ∷ k)

-- a sound history can be put in one line
pub in_line : (first : Record) (h : History) → Sound first h → Line first h
in_line first h s =
    let found = all_put_in s.writes (le_refl h.moves) s.reads in
    record {
      line = start first ∷ reverse found.line;
      starting = here;
      whole = keep (twice found.whole (turned_whole found.line));
      order = in_order (ahead 0 (le_refl 0) (le_refl 0) (le_refl 0) (turned_rising found.lined no_more));
      gives = from_start (turned_gives found.lined done);
      numbered = turned_writes found.lined [];
    }
