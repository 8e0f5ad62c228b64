-- The line, newest first, with a moment at which each operation may be said to happen: from its begin to its end,
-- and none sooner than that of the operation ahead of it. The writes stand in line by themselves; the reads are
-- put in one by one, each as many writes back as it is placed. Assumes nothing.
use mathlib.Core.Path.{◌≡◌}
use mathlib.Core.List.{List, [], ◌∷◌, ◌++◌, map}
use Prim.Native.Nat.{ℕ, ◌+◌, ◌≤◌, min}
use native.Mathlib.Nat.{le_refl, le_trans, le-min, min-le_left, min-le_right}
use native.Mathlib.Omega.{arith}
use lib.ListN.{length}
use Rattle.theory.specs.Place.{Record}
use Rattle.theory.specs.History.{Read, Write}
use Rattle.theory.specs.Line.{Operation, reading, writing, Reordered, empty, keep, swap, twice}
use Rattle.theory.proofs.Placed.{Placed, at_start, at_newest, further_back, newest, Apart, no_writes}
use Rattle.theory.proofs.Placed.{one_write, AllPlaced, no_reads, one_read}

-- A line of the given writes and of reads that ended by t, with no moment in it later than `latest`. Each read
-- shows the record of the nearest write ahead of it; the moment of a write is its publication
pub data Lined (first : Record) (t : ℕ) : ℕ → List Write → List Operation → Type 0 where
  nothing : {latest : ℕ} → Lined first t latest [] []
  with_read : {latest : ℕ} {x : Read} {writes : List Write} {line : List Operation} (moment : ℕ)
      → moment ≤ latest → x.begin ≤ moment → moment ≤ x.end → x.end ≤ t
      → x.gets.number ≡ length writes → x.gets.shows ≡ newest first writes
      → Lined first t moment writes line → Lined first t latest writes (reading x ∷ line)
  with_write : {latest : ℕ} {w : Write} {writes : List Write} {line : List Operation}
      → w.publication ≤ latest → w.begin ≤ w.publication → w.publication ≤ w.end
      → Lined first t w.publication writes line → Lined first t latest (w ∷ writes) (writing w ∷ line)

-- all these operations put in such a line
pub record Arranged (first : Record) (t latest : ℕ) (writes : List Write) (all : List Operation) : Type 0 where
  pub line : List Operation
  pub whole : Reordered all line
  pub lined : Lined first t latest writes line

pub same : (l : List Operation) → Reordered l l
same [] = empty
same (x ∷ l) = keep (same l)

module _ {first : Record} where
  lined_later : {t t' latest : ℕ} {writes : List Write} {line : List Operation} → t ≤ t'
      → Lined first t latest writes line → Lined first t' latest writes line
  lined_later h nothing = nothing
  lined_later h (with_read moment a b c d k e rest) =
      with_read moment a b c (le_trans d h) k e (lined_later h rest)
  lined_later h (with_write a b c rest) = with_write a b c (lined_later h rest)

  -- ---- a read put in front

  placed_shows : {begin end : ℕ} {v : Record} {writes : List Write} → Placed first begin end v 0 writes
      → v ≡ newest first writes
  placed_shows (at_start e) = e
  placed_shows (at_newest q e) = e

  -- where a read that ends after all others is placed no write back, no moment is later than its end
  all_by_end : {begin end latest : ℕ} {v : Record} {writes : List Write} {line : List Operation}
      → Placed first begin end v 0 writes → Lined first end latest writes line
      → Lined first end (min latest end) writes line
  all_by_end p nothing = nothing
  all_by_end p (with_read moment a b c d k e rest) = with_read moment (le-min a (le_trans c d)) b c d k e rest
  all_by_end (at_newest q f) (with_write a b c rest) = with_write (le-min a q) b c rest

  -- its moment is its end, or the latest that there may be
  in_front : {latest : ℕ} {writes : List Write} (x : Read) → x.begin ≤ x.end → x.begin ≤ latest
      → Placed first x.begin x.end x.gets.shows 0 writes → x.gets.number ≡ length writes
      → (line : List Operation)
      → Lined first x.end latest writes line → Arranged first x.end latest writes (reading x ∷ line)
  in_front {latest = latest} x a b p k line l =
      record {
        line = reading x ∷ line;
        whole = same (reading x ∷ line);
        lined =
            with_read (min latest x.end) (min-le_left latest x.end) (le-min b a)
            (min-le_right latest x.end) (le_refl x.end) k (placed_shows p) (all_by_end p l);
      }

  -- ---- a read put further back

  -- x goes behind y, if it can be put into what stands there
  goes_behind : {t latest latest' : ℕ} {writes writes' : List Write} {line : List Operation} {x : Operation}
      (y : Operation)
      → ((l : List Operation) → Lined first t latest writes l → Lined first t latest' writes' (y ∷ l))
      → Arranged first t latest writes (x ∷ line) → Arranged first t latest' writes' (x ∷ y ∷ line)
  goes_behind y with_y put =
      record {
        line = y ∷ put.line;
        whole = twice swap (keep put.whole);
        lined = with_y put.line put.lined;
      }

  -- x goes behind the newest write, if it can be put into what stands there
  past_newest : {t latest : ℕ} {w : Write} {writes : List Write} {line : List Operation} {x : Operation}
      → ((l : List Operation) → Lined first t w.publication writes l
      → Arranged first t w.publication writes (x ∷ l))
      → Lined first t latest (w ∷ writes) line → Arranged first t latest (w ∷ writes) (x ∷ line)
  past_newest put (with_read {x = y} moment a b c d k e rest) =
      goes_behind (reading y) (λ l. with_read moment a b c d k e) (past_newest put rest)
  past_newest put (with_write {w = w} {line = line} a b c rest) =
      goes_behind (writing w) (λ l. with_write a b c) (put line rest)

  put_in : (x : Read) {latest back : ℕ} {writes : List Write} → x.begin ≤ x.end → x.begin ≤ latest
      → Placed first x.begin x.end x.gets.shows back writes → back + x.gets.number ≡ length writes
      → (line : List Operation)
      → Lined first x.end latest writes line → Arranged first x.end latest writes (reading x ∷ line)
  put_in x a b (at_start e) k = in_front x a b (at_start e) (omega arith)
  put_in x a b (at_newest q e) k = in_front x a b (at_newest q e) (omega arith)
  put_in x a b (further_back q p) k = λ line. past_newest (put_in x a q p (omega arith))

  -- ---- the whole line

  writes_lined : {t latest : ℕ} {writes : List Write} → Apart latest writes
      → Lined first t latest writes (map writing writes)
  writes_lined no_writes = nothing
  writes_lined (one_write a b c rest) = with_write c a b (writes_lined rest)

  -- all reads put in, the one that ended first before the others
  pub all_put_in : {writes : List Write} {t latest : ℕ} {reads : List Read} → Apart latest writes → t ≤ latest
      → AllPlaced first writes t reads
      → Arranged first t latest writes (map reading reads ++ map writing writes)
  all_put_in {writes = writes} apart h no_reads =
      record { line = map writing writes; whole = same (map writing writes); lined = writes_lined apart }
  all_put_in apart h (one_read {x = x} a b place rest) =
      let others = all_put_in apart (le_trans a h) rest in
      let put =
      put_in x b (le_trans b (le_trans a h)) place.placed place.number others.line others.lined in
      record {
        line = put.line;
        whole = twice (keep others.whole) put.whole;
        lined = lined_later a put.lined;
      }
