-- Where a read is placed among the writes, when a history is sound, and that each move of a run keeps it sound.
-- All this holds of any register.
--     Placed, Where                       a read some writes back; a read at the write of its number
--     Apart, AllPlaced, Sound             writes in order; reads in order, each placed; a history of such
--     newest                              the record of the newest write
--     later, where_later                  a read that ends later is placed where it was
--     where_published, where_closed       a publication puts it one further back, the end of a write does not
--     newest_where                        a read of the newest record is placed no write back
--     length_closed, newest_closed, apart_later   writes that end, and time that goes on
--     sound_at_first, Needs, sound_noted  a history is sound at first, and after one more move that has what it needs
--     began_noted                         no operation began later than now
-- Assumes nothing.
use mathlib.Core.Path.{◌≡◌, refl, sym, ◌∙◌}
use mathlib.Core.Bool.{Bool, true, false, cond}
use mathlib.Core.List.{List, [], ◌∷◌}
use Prim.Native.Nat.{ℕ, suc, ◌+◌, ◌≤◌, ◌<◌}
use native.Mathlib.Nat.{le_refl, le-suc, le_trans}
use native.Mathlib.Omega.{arith}
use lib.Dec.{eqb}
use lib.ListN.{length}
use Rattle.theory.specs.Lists.{Each, none, also}
use Rattle.theory.specs.Place.{Record}
use Rattle.theory.specs.History.{Deed, read_began, write_began, went_on, looked, published, read_ended}
use Rattle.theory.specs.History.{write_ended, Read, Write, History, closed, the_write, noted, nothing_yet}
use Rattle.theory.proofs.Tests.{if_true}

-- ---- placed, apart and sound; lists of reads and of writes are newest first

-- A read that began at `begin`, ends at `end` and shows v is placed some writes back: v is the record of the
-- write there, which was published by the end of the read; no newer write was published before the read began
pub data Placed (first : Record) (begin end : ℕ) (v : Record) : ℕ → List Write → Type 0 where
  at_start : v ≡ first → Placed first begin end v 0 []
  at_newest : {w : Write} {writes : List Write} → w.publication ≤ end → v ≡ w.gives
      → Placed first begin end v 0 (w ∷ writes)
  further_back : {back : ℕ} {w : Write} {writes : List Write} → begin ≤ w.publication
      → Placed first begin end v back writes → Placed first begin end v (suc back) (w ∷ writes)

-- a read with write number n is placed at the write of that number
pub record Where (first : Record) (begin end : ℕ) (v : Record) (n : ℕ) (writes : List Write) : Type 0 where
  pub back : ℕ
  pub placed : Placed first begin end v back writes
  pub number : back + n ≡ length writes

-- writes: each was published from its begin to its end; all were published by t, in the order of the list
pub data Apart : ℕ → List Write → Type 0 where
  no_writes : {t : ℕ} → Apart t []
  one_write : {t : ℕ} {w : Write} {writes : List Write} → w.begin ≤ w.publication
      → w.publication ≤ w.end → w.publication ≤ t → Apart w.publication writes
      → Apart t (w ∷ writes)

pub between : {t : ℕ} {l : List Write} → Apart t l
    → Each (λ w. (w.begin ≤ w.publication) × (w.publication ≤ w.end)) l
between no_writes = none
between (one_write h i j rest) = also (h, i) (between rest)

-- reads: each is placed; all ended by t, in the order of the list
pub data AllPlaced (first : Record) (writes : List Write) : ℕ → List Read → Type 0 where
  no_reads : {t : ℕ} → AllPlaced first writes t []
  one_read : {t : ℕ} {x : Read} {reads : List Read} → x.end ≤ t → x.begin ≤ x.end
      → Where first x.begin x.end x.gets.shows x.gets.number writes
      → AllPlaced first writes x.end reads → AllPlaced first writes t (x ∷ reads)

-- all that a history needs so that it can be put in one line
pub record Sound (first : Record) (h : History) : Type 0 where
  pub writes : Apart h.moves h.writes
  pub reads : AllPlaced first h.writes h.moves h.reads

-- the record of the newest write, or the starting record
abbrev pub newest : Record → List Write → Record
newest first [] = first
newest first (w ∷ writes) = w.gives

-- ---- one read, while the run goes on

module _ {first : Record} {begin end : ℕ} {v : Record} where
  -- a read that ends later is placed where it was
  pub later : {back : ℕ} {writes : List Write} (end' : ℕ) → end ≤ end'
      → Placed first begin end v back writes → Placed first begin end' v back writes
  later end' h (at_start e) = at_start e
  later end' h (at_newest q e) = at_newest (le_trans q h) e
  later end' h (further_back q p) = further_back q (later end' h p)

  pub where_later : {n : ℕ} {writes : List Write} (end' : ℕ) → end ≤ end'
      → Where first begin end v n writes → Where first begin end' v n writes
  where_later end' h a = record { back = a.back; placed = later end' h a.placed; number = a.number }

  -- a write published since the read began puts it one further back
  pub where_published : {n : ℕ} {writes : List Write} (w : Write) → begin ≤ w.publication
      → Where first begin end v n writes → Where first begin end v n (w ∷ writes)
  where_published w h a =
      record { back = suc a.back; placed = further_back h a.placed; number = omega (arith, a.number) }

  placed_closed : {back : ℕ} {writes : List Write} (t k : ℕ) → Placed first begin end v back writes
      → Placed first begin end v back (closed t k writes)
  placed_closed t k (at_start e) = at_start e
  placed_closed t k (at_newest q e) = at_newest q e
  placed_closed t k (further_back q p) = further_back q p

pub length_closed : (t k : ℕ) (writes : List Write) → length (closed t k writes) ≡ length writes
length_closed t k [] = refl
length_closed t k (w ∷ writes) = refl

-- the end of a write moves no read
pub where_closed : {first : Record} {begin end n : ℕ} {v : Record} {writes : List Write} (t k : ℕ)
    → Where first begin end v n writes → Where first begin end v n (closed t k writes)
where_closed {writes = writes} t k a =
    record {
      back = a.back;
      placed = placed_closed t k a.placed;
      number = a.number ∙ sym (length_closed t k writes);
    }

pub newest_closed : (first : Record) (t k : ℕ) (writes : List Write)
    → newest first (closed t k writes) ≡ newest first writes
newest_closed first t k [] = refl
newest_closed first t k (w ∷ writes) = refl

-- a read that shows the newest record is placed no write back
pub newest_where : (first : Record) (begin end : ℕ) (v : Record) (n : ℕ) (writes : List Write)
    → Apart end writes → v ≡ newest first writes → n ≡ length writes → Where first begin end v n writes
newest_where first begin end v n writes no_writes e q =
    record { back = 0; placed = at_start e; number = omega arith }
newest_where first begin end v n writes (one_write a b c rest) e q =
    record { back = 0; placed = at_newest c e; number = omega arith }

-- ---- all writes and all reads, while the run goes on

pub apart_later : (t t' : ℕ) (writes : List Write) → t ≤ t' → Apart t writes → Apart t' writes
apart_later t t' writes h no_writes = no_writes
apart_later t t' writes h (one_write a b c rest) = one_write a b (le_trans c h) rest

-- the newest write may end at any time from its publication on
apart_closed : (end t k : ℕ) (writes : List Write) → end ≤ t → Apart end writes
    → Apart t (closed end k writes)
apart_closed end t k writes h no_writes = no_writes
apart_closed end t k writes h (one_write a b c rest) = one_write a c (le_trans c h) rest

module _ {first : Record} {writes : List Write} where
  all_later : {reads : List Read} (t t' : ℕ) → t ≤ t' → AllPlaced first writes t reads
      → AllPlaced first writes t' reads
  all_later t t' h no_reads = no_reads
  all_later t t' h (one_read a b c rest) = one_read (le_trans a h) b c rest

  all_published : {reads : List Read} (t : ℕ) (w : Write) → t ≤ w.publication
      → AllPlaced first writes t reads → AllPlaced first (w ∷ writes) t reads
  all_published t w h no_reads = no_reads
  all_published t w h (one_read {x = x} a b c rest) =
      one_read a b (where_published w (omega arith) c) (all_published x.end w (le_trans a h) rest)

  all_closed : {t : ℕ} {reads : List Read} (end k : ℕ) → AllPlaced first writes t reads
      → AllPlaced first (closed end k writes) t reads
  all_closed end k no_reads = no_reads
  all_closed end k (one_read a b c rest) = one_read a b (where_closed end k c) (all_closed end k rest)

-- ---- each move keeps a history sound

-- what a deed of process p asks of the register: of the end of a read, where it is placed
abbrev pub Needs : Record → History → ℕ → Deed → Type 0
Needs first h p read_began = Unit {0}
Needs first h p (write_began v) = Unit {0}
Needs first h p (went_on k) = Unit {0}
Needs first h p looked = Unit {0}
Needs first h p (published ended) = Unit {0}
Needs first h p (read_ended g) = Where first (h.began p) h.moves g.shows g.number h.writes
Needs first h p write_ended = Unit {0}

pub sound_at_first : (first : Record) → Sound first nothing_yet
sound_at_first first = record { writes = no_writes; reads = no_reads }

-- the same writes and reads, one move later
module _ {first : Record} {h : History} (s : Sound first h) where
  writes_on : Apart (suc h.moves) h.writes
  writes_on = apart_later h.moves (suc h.moves) h.writes (le-suc h.moves) s.writes

  reads_on : AllPlaced first h.writes (suc h.moves) h.reads
  reads_on = all_later h.moves (suc h.moves) (le-suc h.moves) s.reads

sound_published : {first : Record} {total : ℕ} {h : History} {p : ℕ} (ended : Bool) → h.began p ≤ h.moves
    → h.moves < total → Sound first h → Sound first (noted total h p (published ended))
sound_published {total = total} {h = h} {p = p} ended b l s =
    record {
      writes = one_write b (ends ended) (le-suc h.moves) s.writes;
      reads =
          all_later h.moves (suc h.moves) (le-suc h.moves)
          (all_published h.moves (the_write total h p ended) (le_refl h.moves) s.reads);
    }
  where
    ends : (ended : Bool) → h.moves ≤ cond ended h.moves total
    ends true = omega arith
    ends false = omega arith

-- a sound history is sound after one more move
pub sound_noted : (first : Record) (total : ℕ) (h : History) (p : ℕ) (deed : Deed) → h.began p ≤ h.moves
    → h.moves < total → Needs first h p deed → Sound first h → Sound first (noted total h p deed)
sound_noted first total h p read_began b l needs s = record { writes = writes_on s; reads = reads_on s }
sound_noted first total h p (write_began v) b l needs s = record { writes = writes_on s; reads = reads_on s }
sound_noted first total h p (went_on k) b l needs s = record { writes = writes_on s; reads = reads_on s }
sound_noted first total h p looked b l needs s = record { writes = writes_on s; reads = reads_on s }
sound_noted first total h p (published ended) b l needs s = sound_published ended b l s
sound_noted first total h p (read_ended g) b l needs s =
    record { writes = writes_on s; reads = one_read (le-suc h.moves) b needs s.reads }
sound_noted first total h p write_ended b l needs s =
    record {
      writes =
          apart_closed h.moves (suc h.moves) (suc (h.steps p)) h.writes (le-suc h.moves)
          s.writes;
      reads = all_closed h.moves (suc (h.steps p)) (reads_on s);
    }

-- no operation began later than now, and so it is after one more move
pub began_noted : (total : ℕ) (h : History) (p : ℕ) (deed : Deed) → ((q : ℕ) → h.began q ≤ h.moves)
    → (q : ℕ) → (noted total h p deed).began q ≤ (noted total h p deed).moves
began_noted total h p read_began b q =
    if_true (λ k. k ≤ suc h.moves) (eqb q p) _ (h.began q) (λ e. omega arith) (λ e. omega (arith, b q))
began_noted total h p (write_began v) b q =
    if_true (λ k. k ≤ suc h.moves) (eqb q p) _ (h.began q) (λ e. omega arith) (λ e. omega (arith, b q))
began_noted total h p (went_on k) b q = omega (arith, b q)
began_noted total h p looked b q = omega (arith, b q)
began_noted total h p (published ended) b q = omega (arith, b q)
began_noted total h p (read_ended g) b q = omega (arith, b q)
began_noted total h p write_ended b q = omega (arith, b q)
