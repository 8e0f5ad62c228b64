-- How many readers are bound to each slot, and that every accepted move keeps the counts in balance.
--     is_bound, bound                     whether one reader is bound to a slot, how many are
--     unbound, bound_here, bound_away, bound_at_most   one reader's share
--     Counts, Counted                     the balance of a memory; the counting invariant
--     keeps_counts                        every accepted move keeps it
-- Assumes nothing.
use mathlib.Core.Path.{◌≡◌, refl, sym, subst, subst₂, transport, ◌∙◌, fun_ext}
use mathlib.Core.Logic.{◌≢◌}
use mathlib.Core.Bool.{Bool, true, false, cond}
use Prim.Native.Nat.{ℕ, zero, suc, ◌+◌, ◌*◌, ◌≤◌, ◌<◌}
use native.Mathlib.Decide.{ℕ_discrete}
use native.Mathlib.Omega.{arith}
use lib.Dec.{eqb}
use borrow.Author.Tests.{ne_eqb}
use Rattle.theory.specs.Place.{Memory, apply}
use Rattle.register.specs.Shape.{Shape}
use Rattle.register.specs.Area.{current, index, counter, r_start, r_end, phase, last, writer_phase, last_slot}
use Rattle.register.specs.Area.{in_hand, old_word}
use Rattle.register.specs.Steps.{unbinds, binds, clears_start, clears_end, freezes}
use Rattle.theory.specs.History.{Deed, Event}
use Rattle.theory.proofs.Tests.{hit, miss, eqb_same, same_either, at_each}
use Rattle.theory.proofs.Sums.{sum, sum_one, sum_same, sum_at_most, sum_zero, sum_ones, sum_swap}
use Rattle.atomic.proofs.Moves
use Rattle.atomic.proofs.Moves.{ReaderDoes, WriterDoes, Does, by_reader, by_writer, to_phase}
use Rattle.atomic.proofs.Frames.{ReaderLeaves, reader_leaves, WriterLeaves, writer_leaves}
use Rattle.atomic.proofs.Balance.{Balance, one_leaves, one_joins, write_begins, hand_free, hand_held}
use Rattle.atomic.proofs.Balance.{hand_filled, hand_published, old_frozen}

-- 1 where a reader in phase p whose last is l is bound to slot s: between its steps 2 and 3 it is bound nowhere
abbrev pub is_bound : ℕ → ℕ → ℕ → ℕ
is_bound s p l = cond (eqb p 3) 0 (cond (eqb l s) 1 0)

unfoldable pub bound : ℕ → Memory → ℕ → ℕ
bound n m s = sum n (λ r. is_bound s (m (phase r)) (m (last r)))

-- ---- one reader's share

pub unbound : (s p l : ℕ) → p ≡ 3 → is_bound s p l ≡ 0
unbound s p l e = rw e

pub bound_here : (s p l : ℕ) → p ≢ 3 → l ≡ s → is_bound s p l ≡ 1
bound_here s p l d e = miss p 3 d 0 (cond (eqb l s) 1 0) ∙ rw (e, eqb_same s)

pub bound_away : (s p l : ℕ) → l ≢ s → is_bound s p l ≡ 0
bound_away s p l d = rw (ne_eqb l s d) (same_either (eqb p 3) 0)

pub bound_at_most : (s p l : ℕ) → is_bound s p l ≤ 1
bound_at_most s p l = go (eqb p 3) (eqb l s)
  where
    go : (a b : Bool) → cond {A = ℕ} a 0 (cond b 1 0) ≤ 1
    go true b = omega arith
    go false true = omega arith
    go false false = omega arith

bound_once : (k p l : ℕ) → sum k (λ s. is_bound s p l) ≤ 1
unfolding sum
bound_once zero p l = omega arith
bound_once (suc k) p l = go (bound_once k p l) (ℕ_discrete l k)
  where
    nowhere : l ≡ k → sum k (λ s. is_bound s p l) ≡ sum k (λ s. 0)
    nowhere e = sum_same k (λ s. is_bound s p l) (λ s. 0) (λ s h. bound_away s p l (λ x. omega arith))

    go : sum k (λ s. is_bound s p l) ≤ 1 → Dec (l ≡ k) → sum k (λ s. is_bound s p l) + is_bound k p l ≤ 1
    go rest (yes e) = omega (arith, nowhere e, sum_zero k, bound_at_most k p l)
    go rest (no d) = omega (arith, rest, bound_away k p l d)

module _ (shape : Shape) where
  abbrev n : ℕ
  n = shape.n

  -- every reader is bound to one slot at most
  bound_few : (m : Memory) (k : ℕ) → sum k (bound n m) ≤ n
  unfolding bound
  bound_few m k =
      let share : ℕ → ℕ → ℕ = λ s r. is_bound s (m (phase r)) (m (last r)) in
      let once : sum n (λ r. sum k (λ s. share s r)) ≤ sum n (λ r. 1) =
      sum_at_most n (λ r. sum k (λ s. share s r)) (λ r. 1) (λ r h. bound_once k (m (phase r)) (m (last r))) in
      omega (arith, sum_swap k n share, once, sum_ones n)

  -- reader r moved
  moved : {m m' : Memory} {r : ℕ} → ReaderLeaves shape m m' r → r < n → (s : ℕ)
      → bound n m' s + is_bound s (m (phase r)) (m (last r))
      ≡ bound n m s + is_bound s (m' (phase r)) (m' (last r))
  unfolding bound
  moved {m} {m'} {r} f h s =
      sum_one n (λ q. is_bound s (m' (phase q)) (m' (last q))) (λ q. is_bound s (m (phase q)) (m (last q))) r h
      (λ q d. rw (f.desk 0 q 0 d, f.desk 1 q 0 d))

  -- the writer moved
  same_bound : {m m' : Memory} → WriterLeaves m m' → bound n m' ≡ bound n m
  unfolding bound
  same_bound {m} {m'} f =
      fun_ext
      (λ s.
      sum_same n (λ r. is_bound s (m' (phase r)) (m' (last r))) (λ r. is_bound s (m (phase r)) (m (last r)))
      (λ r h. rw (f.desk 0 r 0, f.desk 1 r 0)))

  abbrev pub Counts : Memory → (ℕ → ℕ) → Type 0
  Counts m bound =
      Balance n (index (m current)) (counter (m current)) (λ s. m (r_start s)) (λ s. m (r_end s)) bound
      (m writer_phase)
      (m last_slot) (m in_hand) (index (m old_word)) (counter (m old_word))

  -- the counting invariant
  pub record Counted (m : Memory) : Type 0 where
    pub lasts : (r : ℕ) → r < n → m (last r) < n + 2
    pub counts : Counts m (bound n m)

  -- ---- a reader

  module _ {m : Memory} {r : ℕ} (v : Counted m) (h : r < n) where
    -- it neither leaves nor joins a slot
    stays : {m' : Memory} → ReaderLeaves shape m m' r → (2 ≤ m (phase r) → 4 ≤ m (phase r))
        → m' (last r) ≡ m (last r)
        → ((s : ℕ) → is_bound s (m (phase r)) (m (last r)) ≡ is_bound s (m' (phase r)) (m' (last r)))
        → Counted m'
    stays {m'} f neither same_last alike =
        record {
          lasts = at_each (λ q. m' (last q) < n + 2) r (rw same_last (v.lasts r h))
              (λ q k d. rw (f.desk 1 q 0 d) (v.lasts q k));
          counts = transport (sym same) v.counts;
        }
      where
        same : Counts m' (bound n m') ≡ Counts m (bound n m)
        same = λ i.
            Balance n (index (word i)) (counter (word i)) (λ s. f.start s i)
            (λ s. f.end s (λ e. absurd (omega (arith, neither (omega arith)))) i) (λ s. all s i) (f.writer 0 0 i)
            (f.writer 1 0 i) (f.writer 2 0 i) (index (f.writer 5 0 i)) (counter (f.writer 5 0 i))
          where
            word : m' current ≡ m current
            word = f.word (λ e. omega (arith, neither (omega arith)))

            all : (s : ℕ) → bound n m' s ≡ bound n m s
            all s = omega (arith, moved f h s, alike s)

    -- step 2
    leaving : m (phase r) ≡ 2 → ReaderLeaves shape m (apply m (unbinds m r)) r → Counted (apply m (unbinds m r))
    leaving e f =
        record {
          lasts = v.lasts;
          counts = one_leaves v.counts (λ s. m' (r_end s)) (bound n m') l
              (λ s d. f.end s (λ z. d))
              (λ s d. omega (arith, moved f h s, bound_away s (m (phase r)) l (λ x. d (sym x)), gone s))
              (hit l (suc (m (r_end l))) (m (r_end l)))
              (omega (arith, moved f h l, bound_here l (m (phase r)) l (λ x. omega arith) refl, gone l));
        }
      where
        l : ℕ
        l = m (last r)

        m' : Memory
        m' = apply m (unbinds m r)

        gone : (s : ℕ) → is_bound s (m' (phase r)) l ≡ 0
        gone s = unbound s (m' (phase r)) l (hit r 3 (m (phase r)))

    -- step 3
    joining : n < 4294967296 → m (phase r) ≡ 3 → counter (m current) < n
        → ReaderLeaves shape m (apply m (binds m r)) r → Counted (apply m (binds m r))
    joining big e x f =
        record {
          lasts = at_each (λ q. m' (last q) < n + 2) r (rw here v.counts.slot)
              (λ q k d. rw (f.desk 1 q 0 d) (v.lasts q k));
          counts = subst₂ at_word (sym (f.slot big)) (sym more)
              (one_joins v.counts (bound n m')
              (λ s d.
              let away = bound_away s (m' (phase r)) (m' (last r)) (λ y. d (sym y ∙ here)) in
              omega (arith, moved f h s, gone s, away))
              (omega (arith, moved f h i, gone i, bound_here i (m' (phase r)) (m' (last r)) turned here)));
        }
      where
        i : ℕ
        i = index (m current)

        m' : Memory
        m' = apply m (binds m r)

        at_word : ℕ → ℕ → Type 0
        at_word i k =
            Balance n i k (λ s. m (r_start s)) (λ s. m (r_end s)) (bound n m') (m writer_phase) (m last_slot)
            (m in_hand) (index (m old_word)) (counter (m old_word))

        turned : m' (phase r) ≢ 3
        turned y = omega (arith, hit r 4 (m (phase r)))

        more : counter (suc (m current)) ≡ suc (counter (m current))
        more = omega arith

        here : m' (last r) ≡ i
        here = hit r (index (suc (m current))) (m (last r)) ∙ f.slot big

        gone : (s : ℕ) → is_bound s (m (phase r)) (m (last r)) ≡ 0
        gone s = unbound s (m (phase r)) (m (last r)) e

    reader_counts : {d : Deed} {m' : Memory} → n < 4294967296 → ReaderDoes shape m r d m'
        → ReaderLeaves shape m m' r → Counted m'
    reader_counts big (Moves.read_starts e) f = stays f (λ y. omega arith) refl (λ s. rw (eqb_same r, e))
    reader_counts big (Moves.finds_same e x) f = stays f (λ y. omega arith) refl (λ s. rw (eqb_same r, e))
    reader_counts big (Moves.finds_other e x) f = stays f (λ y. omega arith) refl (λ s. rw (eqb_same r, e))
    reader_counts big (Moves.leaves_slot e x) f = leaving e f
    reader_counts big (Moves.joins_slot e x) f = joining big e x f
    reader_counts big (Moves.takes_none e x) f = stays f (λ y. omega arith) refl (λ s. rw (eqb_same r, e))
    reader_counts big (Moves.takes_size e x) f = stays f (λ y. omega arith) refl (λ s. rw (eqb_same r, e))
    reader_counts big (Moves.copies_word e x) f = stays f (λ y. omega arith) refl (λ s. refl)
    reader_counts big (Moves.copies_last e x) f = stays f (λ y. omega arith) refl (λ s. rw (eqb_same r, e))

  -- ---- the writer: the readers are bound as they were

  module _ {m : Memory} (v : Counted m) where
    -- steps 2 and 3, to phase k
    filling_on : (k : ℕ) → 2 ≤ m writer_phase → m writer_phase ≤ 5 → 2 ≤ k → k ≤ 5
        → Counts (apply m (to_phase k)) (bound n m)
    filling_on k lo hi lo' hi' =
        hand_filled v.counts (λ s. m (r_start s)) (λ s. m (r_end s)) k lo hi lo' (omega arith)
        (λ y. absurd (omega arith)) (λ s d. refl) (λ s d. refl)

    writer_counts : {d : Deed} {m' : Memory} → WriterDoes shape m d m' → WriterLeaves m m'
        → Counts m' (bound n m)
    writer_counts (Moves.write_starts u h e full) f = write_begins v.counts e (bound_few m (n + 2))
    writer_counts (Moves.picks_empty e d x y) f = hand_free v.counts 3 (omega arith) (omega arith) e d x
    writer_counts (Moves.picks_slot e d x y) f = hand_free v.counts 2 (omega arith) (omega arith) e d x
    writer_counts (Moves.passes_slot e d x) f = (hand_held v.counts e d).0
    writer_counts (Moves.fills_word e x) f = filling_on 2 (omega arith) (omega arith) (omega arith) (omega arith)
    writer_counts (Moves.fills_last e x) f = filling_on 3 (omega arith) (omega arith) (omega arith) (omega arith)
    writer_counts (Moves.sets_size e) f = filling_on 4 (omega arith) (omega arith) (omega arith) (omega arith)
    writer_counts (Moves.clears_first e) f =
        hand_filled v.counts (λ s. apply m (clears_start m) (r_start s)) (λ s. m (r_end s)) 5 (omega arith)
        (omega arith) (omega arith) (omega arith) (λ y. absurd (omega arith))
        (λ s d. f.start s (λ lo hi. d) (λ y. absurd (omega arith))) (λ s d. refl)
    writer_counts (Moves.clears_second e) f =
        hand_filled v.counts (λ s. m (r_start s)) (λ s. apply m (clears_end m) (r_end s)) 6 (omega arith)
        (omega arith) (omega arith) (omega arith) (λ y. hit (m in_hand) 0 (m (r_end (m in_hand)))) (λ s d. refl)
        (λ s d. f.end s (λ lo hi. d))
    writer_counts (Moves.exchanges e) f =
        let i : index (m in_hand * 4294967296) ≡ m in_hand = omega arith in
        let k : counter (m in_hand * 4294967296) ≡ 0 = omega arith in
        rw (i, k) (hand_published v.counts e)
    writer_counts (Moves.write_ends e) f =
        let old = index (m old_word) in
        old_frozen v.counts (λ s. apply m (freezes m) (r_start s)) e
        (λ s d. f.start s (λ lo hi. absurd (omega arith)) (λ y. d))
        (hit old (counter (m old_word)) (m (r_start old)))

  -- every accepted move keeps the counts
  pub keeps_counts : n < 4294967296 → {m m' : Memory} {e : Event} → Counted m → Does shape m e m'
      → Counted m'
  keeps_counts big v (by_reader h x) = reader_counts v h big x (reader_leaves x)
  keeps_counts big {m' = m'} v (by_writer x) =
      let f = writer_leaves x in
      record {
        lasts = λ r l. rw (f.desk 1 r 0) (v.lasts r l);
        counts = subst (Counts m') (sym (same_bound f)) (writer_counts v x f);
      }
