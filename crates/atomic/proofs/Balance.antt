-- The counts of a register with readers' counters, over bare numbers: what each kind of step does to them.
--     Stage, Settled, Balance             what the writer is at; slots whose counts agree; both, with the current slot
--     one_leaves, one_joins               reader steps 2 and 3
--     write_begins                        the writer begins, and some slot is free
--     hand_free, hand_held                writer step 1: the slot in hand is free, or it is not and is not the last
--     hand_alone, hand_filled             writer steps 2 to 5
--     hand_published, old_frozen          writer steps 6 and 7
-- n readers; `here` and `counted` are the index and the counter of the current word, `old` and `frozen` those of the
-- old word; `started` and `gone` are r_start and r_end of each slot, `bound` is how many readers are bound to it; the
-- writer is in phase `phase` with last slot `last` and slot in hand `hand`.
-- Assumes nothing.
use mathlib.Core.Path.{◌≡◌, refl, sym, ap, ◌∙◌}
use mathlib.Core.Logic.{◌≢◌}
use Prim.Native.Nat.{ℕ, suc, ◌+◌, ◌≤◌, ◌<◌}
use native.Mathlib.Decide.{ℕ_discrete}
use native.Mathlib.Omega.{arith}
use Rattle.theory.proofs.Sums.{sum, spare}

-- what the writer is at; `away` is the one slot beside the current one whose r_start need not be its count
pub data Stage (n here : ℕ) (gone bound : ℕ → ℕ) (phase last hand old frozen away : ℕ) : Type 0 where
  idle : phase ≡ 0 → last ≡ here → away ≡ here → Stage n here gone bound phase last hand old frozen away
  scanning : phase ≡ 1 → last ≡ here → away ≡ here → (s : ℕ) → hand ≤ s → s < n + 2 → s ≢ here
      → bound s ≡ 0 → Stage n here gone bound phase last hand old frozen away
  filling : 2 ≤ phase → phase ≤ 6 → last ≡ here → away ≡ hand → hand < n + 2 → hand ≢ here
      → bound hand ≡ 0 → (6 ≤ phase → gone hand ≡ 0)
      → Stage n here gone bound phase last hand old frozen away
  told : phase ≡ 7 → hand ≡ here → away ≡ old → old < n + 2 → old ≢ here
      → frozen ≡ gone old + bound old → Stage n here gone bound phase last hand old frozen away

-- every slot's r_start is its r_end and its bound readers, but for the slot away and the current one, whose counter
-- it is
abbrev pub Settled : ℕ → ℕ → (ℕ → ℕ) → (ℕ → ℕ) → (ℕ → ℕ) → ℕ → Type 0
Settled n here started gone bound away =
    (s : ℕ) → s < n + 2 → s ≢ here → s ≢ away → started s ≡ gone s + bound s

pub record Balance (n here counted : ℕ) (started gone bound : ℕ → ℕ)
    (phase last hand old frozen : ℕ) : Type 0 where
  pub away : ℕ
  pub slot : here < n + 2
  pub stage : Stage n here gone bound phase last hand old frozen away
  pub now : counted ≡ gone here + bound here
  pub settled : Settled n here started gone bound away

module _ {n here counted : ℕ} {started gone bound : ℕ → ℕ} {phase last hand old frozen : ℕ}
    (b : Balance n here counted started gone bound phase last hand old frozen) where
  -- reader step 2: one reader fewer is bound to slot l, one more is counted as gone
  pub one_leaves : (gone' bound' : ℕ → ℕ) (l : ℕ) → ((s : ℕ) → s ≢ l → gone' s ≡ gone s)
      → ((s : ℕ) → s ≢ l → bound' s ≡ bound s)
      → gone' l ≡ suc (gone l) → bound l ≡ suc (bound' l)
      → Balance n here counted started gone' bound' phase last hand old frozen
  one_leaves gone' bound' l other_gone other_bound more fewer =
      record {
        away = b.away;
        slot = b.slot;
        stage = on b.stage;
        now = b.now ∙ sym (all here);
        settled = λ s h p q. b.settled s h p q ∙ sym (all s);
      }
    where
      all : (s : ℕ) → gone' s + bound' s ≡ gone s + bound s
      all s = at (ℕ_discrete s l)
        where
          at : Dec (s ≡ l) → gone' s + bound' s ≡ gone s + bound s
          at (yes e) = rw e (omega arith)
          at (no d) = omega (arith, other_gone s d, other_bound s d)

      other : (s : ℕ) → bound s ≡ 0 → s ≢ l
      other s z e = let y : bound l ≡ 0 = rw (← e) z in omega arith

      on : {away : ℕ} → Stage n here gone bound phase last hand old frozen away
          → Stage n here gone' bound' phase last hand old frozen away
      on (idle p q a) = idle p q a
      on (scanning p q a s h g j z) = scanning p q a s h g j (other_bound s (other s z) ∙ z)
      on (filling p q a w h g z f) =
          filling p q a w h g (other_bound hand (other hand z) ∙ z) (λ x. other_gone hand (other hand z) ∙ f x)
      on (told p q a h g e) = told p q a h g (e ∙ sym (all old))

  -- reader step 3: one reader more is bound to the current slot and counted there
  pub one_joins : (bound' : ℕ → ℕ) → ((s : ℕ) → s ≢ here → bound' s ≡ bound s)
      → bound' here ≡ suc (bound here)
      → Balance n here (suc counted) started gone bound' phase last hand old frozen
  one_joins bound' other more =
      record {
        away = b.away;
        slot = b.slot;
        stage = on b.stage;
        now = omega (arith, b.now);
        settled = λ s h p q. b.settled s h p q ∙ ap (λ x. gone s + x) (sym (other s p));
      }
    where
      on : {away : ℕ} → Stage n here gone bound phase last hand old frozen away
          → Stage n here gone bound' phase last hand old frozen away
      on (idle p q a) = idle p q a
      on (scanning p q a s h g j z) = scanning p q a s h g j (other s j ∙ z)
      on (filling p q a w h g z f) = filling p q a w h g (other hand g ∙ z) f
      on (told p q a h g e) = told p q a h g (e ∙ ap (λ x. gone old + x) (sym (other old g)))

  -- the writer begins: some slot is free, for n readers cannot hold n + 1 slots
  pub write_begins : phase ≡ 0 → sum (n + 2) bound ≤ n
      → Balance n here counted started gone bound 1 last 0 old frozen
  write_begins e few =
      record { away = b.away; slot = b.slot; stage = on b.stage; now = b.now; settled = b.settled }
    where
      on : {away : ℕ} → Stage n here gone bound phase last hand old frozen away
          → Stage n here gone bound 1 last 0 old frozen away
      on (idle p q a) = let (s, h, j, z) = spare n here bound b.slot few in scanning refl q a s (omega arith) h j z
      on (scanning p q a s h g j z) = absurd (omega arith)
      on (filling p q a w h g z f) = absurd (omega arith)
      on (told p q a h g x) = absurd (omega arith)

  -- writer step 1: the slot in hand is free, and has no reader
  pub hand_free : (phase' : ℕ) → 2 ≤ phase' → phase' ≤ 5 → phase ≡ 1 → hand ≢ last
      → started hand ≡ gone hand → Balance n here counted started gone bound phase' last hand old frozen
  hand_free phase' lo hi e d free = go b.away b.stage b.settled
    where
      go : (away : ℕ) → Stage n here gone bound phase last hand old frozen away
          → Settled n here started gone bound away
          → Balance n here counted started gone bound phase' last hand old frozen
      go away (idle p q a) settled = absurd (omega arith)
      go away (scanning p q a s h g j z) settled =
          let apart : hand ≢ here = λ x. d (x ∙ sym q) in
          let unbound : bound hand ≡ 0 = omega (arith, settled hand (omega arith) apart (λ x. apart (x ∙ a))) in
          record {
            away = hand;
            slot = b.slot;
            stage = filling lo (omega arith) q refl (omega arith) apart unbound (λ x. absurd (omega arith));
            now = b.now;
            settled = λ k h' p' q'. settled k h' p' (λ x. p' (x ∙ a));
          }
      go away (filling p q a w h g z f) settled = absurd (omega arith)
      go away (told p q a h g x) settled = absurd (omega arith)

  -- writer step 1: the slot in hand is last slot or held, and a free slot stands further on
  pub hand_held : phase ≡ 1 → (hand ≢ last → started hand ≢ gone hand)
      → Balance n here counted started gone bound phase last (suc hand) old frozen × (hand ≢ suc n)
  hand_held e held = go b.away b.stage b.settled
    where
      go : (away : ℕ) → Stage n here gone bound phase last hand old frozen away
          → Settled n here started gone bound away
          → Balance n here counted started gone bound phase last (suc hand) old frozen × (hand ≢ suc n)
      go away (idle p q a) settled = absurd (omega arith)
      go away (scanning p q a s h g j z) settled =
          let apart : hand ≢ s = λ x.
          held (λ y. j (sym x ∙ y ∙ q)) (rw x (omega (arith, settled s g j (λ y. j (y ∙ a))))) in (
            record {
              away = away;
              slot = b.slot;
              stage = scanning p q a s (omega arith) g j z;
              now = b.now;
              settled = settled;
            },
            omega arith,
          )
      go away (filling p q a w h g z f) settled = absurd (omega arith)
      go away (told p q a h g x) settled = absurd (omega arith)

  -- in phases 2 to 6 the slot in hand is the one away; it is not the current one, and nobody is bound to it
  pub hand_alone : 2 ≤ phase → phase ≤ 6
      → (last ≡ here) × (b.away ≡ hand) × (hand < n + 2) × (hand ≢ here) × (bound hand ≡ 0)
      × (6 ≤ phase → gone hand ≡ 0)
  hand_alone lo hi = go b.stage
    where
      go : {away : ℕ} → Stage n here gone bound phase last hand old frozen away
          → (last ≡ here) × (away ≡ hand) × (hand < n + 2) × (hand ≢ here) × (bound hand ≡ 0)
          × (6 ≤ phase → gone hand ≡ 0)
      go (idle p q a) = absurd (omega arith)
      go (scanning p q a s h g j z) = absurd (omega arith)
      go (filling p q a w h g z f) = (a, w, h, g, z, f)
      go (told p q a h g x) = absurd (omega arith)

  -- writer steps 2 to 5: the slot in hand is filled, and its counts cleared
  pub hand_filled : (started' gone' : ℕ → ℕ) (phase' : ℕ) → 2 ≤ phase → phase ≤ 5
      → 2 ≤ phase' → phase' ≤ 6 → (6 ≤ phase' → gone' hand ≡ 0)
      → ((s : ℕ) → s ≢ hand → started' s ≡ started s)
      → ((s : ℕ) → s ≢ hand → gone' s ≡ gone s)
      → Balance n here counted started' gone' bound phase' last hand old frozen
  hand_filled started' gone' phase' lo hi lo' hi' clear same_started same_gone =
      let (a, w, h, g, z, f) = hand_alone lo (omega arith) in
      record {
        away = b.away;
        slot = b.slot;
        stage = filling lo' hi' a w h g z clear;
        now = omega (arith, b.now, same_gone here (λ x. g (sym x)));
        settled = λ k h' p' q'.
            let d : k ≢ hand = λ x. q' (x ∙ sym w) in
            omega (arith, b.settled k h' p' q', same_started k d, same_gone k d);
      }

  -- writer step 6: the slot in hand becomes the current one, and the old word keeps the counter of the one before
  pub hand_published : phase ≡ 6 → Balance n hand 0 started gone bound 7 last hand here counted
  hand_published e =
      let (a, w, h, g, z, f) = hand_alone (omega arith) (omega arith) in
      record {
        away = here;
        slot = h;
        stage = told refl refl refl b.slot (λ x. g (sym x)) b.now;
        now = omega (arith, z, f (omega arith));
        settled = λ s h' p' q'. b.settled s h' q' (λ x. p' (x ∙ w));
      }

  -- writer step 7: the old slot's r_start becomes the old word's counter
  pub old_frozen : (started' : ℕ → ℕ) → phase ≡ 7
      → ((s : ℕ) → s ≢ old → started' s ≡ started s) → started' old ≡ frozen
      → Balance n here counted started' gone bound 0 hand hand old frozen
  old_frozen started' e same new = go b.away b.stage b.settled
    where
      go : (away : ℕ) → Stage n here gone bound phase last hand old frozen away
          → Settled n here started gone bound away
          → Balance n here counted started' gone bound 0 hand hand old frozen
      go away (idle p q a) settled = absurd (omega arith)
      go away (scanning p q a s h g j z) settled = absurd (omega arith)
      go away (filling p q a w h g z f) settled = absurd (omega arith)
      go away (told p q a h g x) settled =
          record {
            away = here;
            slot = b.slot;
            stage = idle refl q refl;
            now = b.now;
            settled = λ s h' p' q'. at s h' p' (ℕ_discrete s old);
          }
        where
          at : (s : ℕ) → s < n + 2 → s ≢ here → Dec (s ≡ old) → started' s ≡ gone s + bound s
          at s h' p' (yes y) = rw y (new ∙ x)
          at s h' p' (no y) = same s y ∙ settled s h' p' (λ k. y (k ∙ a))
