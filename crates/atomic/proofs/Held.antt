-- What the counts say of slots and readers: the slot in hand is nobody's, counters have room, a scan ends.
-- Assumes nothing.
use mathlib.Core.Path.{◌≡◌, refl, sym, ◌∙◌}
use mathlib.Core.Logic.{◌≢◌}
use mathlib.Core.Bool.{Bool, true, false, cond}
use Prim.Native.Nat.{ℕ, suc, ◌+◌, ◌≤◌, ◌<◌}
use native.Mathlib.Decide.{ℕ_discrete}
use native.Mathlib.Omega.{arith}
use lib.Dec.{eqb}
use Rattle.theory.specs.Place.{Memory}
use Rattle.register.specs.Shape.{Shape}
use Rattle.register.specs.Area.{current, index, counter, r_start, r_end, phase, last, writer_phase, last_slot}
use Rattle.register.specs.Area.{in_hand, old_word}
use Rattle.theory.proofs.Tests.{hit, miss}
use Rattle.theory.proofs.Sums.{sum_one, sum_at_most, sum_member, sum_ones}
use Rattle.atomic.proofs.Frames.{Unfilled}
use Rattle.atomic.proofs.Balance.{Stage, idle, scanning, filling, told, Settled, hand_alone, hand_held}
use Rattle.atomic.proofs.Counting.{is_bound, bound, bound_here, unbound, bound_at_most, Counted}

module _ (shape : Shape) (m : Memory) where
  abbrev n : ℕ
  n = shape.n

  abbrev AtStage : ℕ → Type 0
  AtStage away =
      Stage n (index (m current)) (λ s. m (r_end s)) (bound n m) (m writer_phase) (m last_slot) (m in_hand)
      (index (m old_word))
      (counter (m old_word)) away

  -- a reader that is bound is counted at its slot
  pub held : (r : ℕ) → r < n → m (phase r) ≢ 3 → 1 ≤ bound n m (m (last r))
  unfolding bound
  held r h d =
      omega (
        arith,
        sum_member n (λ q. is_bound (m (last r)) (m (phase q)) (m (last q))) r h,
        bound_here (m (last r)) (m (phase r)) (m (last r)) d refl,
      )

  -- a reader between its steps 2 and 3 is counted nowhere
  pub one_fewer : (r : ℕ) → r < n → m (phase r) ≡ 3 → (s : ℕ) → bound n m s < n
  unfolding bound
  one_fewer r h e s =
      omega (
        arith,
        sum_one n share filled r h (λ q d. sym (miss q r d 1 (share q))),
        hit r 1 (share r),
        unbound s (m (phase r)) (m (last r)) e,
        sum_at_most n filled (λ q. 1) (λ q k. at_most (eqb q r) q),
        sum_ones n,
      )
    where
      share : ℕ → ℕ
      share q = is_bound s (m (phase q)) (m (last q))

      filled : ℕ → ℕ
      filled q = cond (eqb q r) 1 (share q)

      at_most : (b : Bool) (q : ℕ) → cond b 1 (share q) ≤ 1
      at_most true q = omega arith
      at_most false q = bound_at_most s (m (phase q)) (m (last q))

  module _ (v : Counted shape m) where
    -- the slot that the writer fills is not the current one
    pub hand_apart : Unfilled m (index (m current))
    hand_apart lo hi e = (hand_alone v.counts lo (omega arith)).3 (sym e)

    -- the slot in the writer's hand has no reader
    pub unheld : 2 ≤ m writer_phase → m writer_phase ≤ 6 → (r : ℕ) → r < n → m (phase r) ≢ 3
        → m (last r) ≢ m in_hand
    unheld lo hi r h d e =
        let nobody : bound n m (m (last r)) ≡ 0 = rw e (hand_alone v.counts lo hi).4 in omega (arith, held r h d)

    -- the scan goes no further than the last slot
    pub scan_within : m writer_phase ≡ 1 → m in_hand < n + 2
    scan_within e = go v.counts.stage
      where
        go : {away : ℕ} → AtStage away → m in_hand < n + 2
        go (idle p q a) = absurd (omega arith)
        go (scanning p q a s x g j z) = omega arith
        go (filling p q a w x g z f) = absurd (omega arith)
        go (told p q a x g z) = absurd (omega arith)

    -- a look that finds its slot taken is not at the last one
    pub more_slots : m writer_phase ≡ 1
        → (m in_hand ≢ m last_slot → m (r_start (m in_hand)) ≢ m (r_end (m in_hand))) → m in_hand ≢ suc n
    more_slots e taken = (hand_held v.counts e taken).1

    -- reader step 3 finds room where nobody has gone from the current slot
    pub counter_room : m (r_end (index (m current))) ≡ 0 → (r : ℕ) → r < n → m (phase r) ≡ 3
        → counter (m current) < n
    counter_room z r h e = omega (arith, v.counts.now, one_fewer r h e (index (m current)))

    -- reader step 2 finds room: the slot that it leaves has more readers counted than gone
    pub end_room : (r : ℕ) → r < n → m (phase r) ≡ 2 → m (last r) ≢ index (m current)
        → m (r_start (m (last r))) ≤ n → counter (m old_word) ≤ n → m (r_end (m (last r))) < n
    end_room r h e d few old_few = go v.counts.away v.counts.stage v.counts.settled
      where
        bound_there : 1 ≤ bound n m (m (last r))
        bound_there = held r h (λ x. omega arith)

        slot : m (last r) < n + 2
        slot = v.lasts r h

        go : (away : ℕ) → AtStage away
            → Settled n (index (m current)) (λ s. m (r_start s)) (λ s. m (r_end s)) (bound n m) away
            → m (r_end (m (last r))) < n
        go away (idle p q a) settled = omega (arith, settled (m (last r)) slot d (λ x. d (x ∙ a)), bound_there)
        go away (scanning p q a s x g j z) settled =
            omega (arith, settled (m (last r)) slot d (λ y. d (y ∙ a)), bound_there)
        go away (filling p q a w x g z f) settled =
            let other : m (last r) ≢ away = λ y. unheld p q r h (λ k. omega arith) (y ∙ w) in
            omega (arith, settled (m (last r)) slot d other, bound_there)
        go away (told p q a x g z) settled = was (ℕ_discrete (m (last r)) (index (m old_word)))
          where
            was : Dec (m (last r) ≡ index (m old_word)) → m (r_end (m (last r))) < n
            was (yes y) = rw y (let one : 1 ≤ bound n m (index (m old_word)) = rw y at bound_there in omega arith)
            was (no y) = omega (arith, settled (m (last r)) slot d (λ k. y (k ∙ a)), bound_there)
