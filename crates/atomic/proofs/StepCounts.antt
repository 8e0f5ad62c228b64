-- Counting steps over bare numbers: what a reader and the writer under way have made at each phase.
--     Turns, ReaderSteps                  k steps or k + 2; the steps of a reader at each phase
--     at_rest, first_step                 an idle reader, one that has just begun
--     step_on, step_binds, step_sizes, step_copies   one step more, by the phase that it leads to
--     ends_exactly                        a read of L words takes L + 2 or L + 4
--     few_early, few_late                 under way it has taken fewer
--     WriterSteps                         the looks and steps of the writer at each phase
--     begin_steps, no_steps               a writer that has just begun, an idle one
--     look_finds, look_passes             writer step 1
--     fill_steps, fill_last               writer step 2
--     next_step, publish_step             writer steps 3 to 5, and 6
-- Assumes nothing.
use mathlib.Core.Path.{◌≡◌, refl}
use mathlib.Core.Logic.{◌≢◌, ◌⊎◌, inl, inr}
use Prim.Native.Nat.{ℕ, suc, ◌+◌, ◌≤◌, ◌<◌}
use native.Mathlib.Decide.{ℕ_discrete}
use native.Mathlib.Omega.{arith}

-- ---- a reader under way

-- k steps, or two more where the reader unbound and bound
abbrev pub Turns : ℕ → ℕ → Type 0
Turns made k = (made ≡ k) ⊎ (made ≡ k + 2)

one_turn_more : {made k : ℕ} (j : ℕ) → j ≡ suc k → Turns made k → Turns (suc made) j
one_turn_more j e (inl x) = inl (omega arith)
one_turn_more j e (inr x) = inr (omega arith)

pub record ReaderSteps (made phase pos : ℕ) : Type 0 where
  pub early : 1 ≤ phase → phase ≤ 3 → suc made ≡ phase
  pub bound : phase ≡ 4 → Turns made 1
  pub late : phase ≡ 5 → Turns made (pos + 2)

pub at_rest : {made pos : ℕ} → ReaderSteps made 0 pos
at_rest =
    record {
      early = λ x y. absurd (omega arith);
      bound = λ x. absurd (omega arith);
      late = λ x. absurd (omega arith);
    }

pub first_step : {pos : ℕ} → ReaderSteps 0 1 pos
first_step = record { early = λ x y. refl; bound = λ x. absurd (omega arith); late = λ x. absurd (omega arith) }

module _ {made phase pos : ℕ} (v : ReaderSteps made phase pos) where
  -- reader steps 1 and 2, to the next phase
  pub step_on : {pos' : ℕ} (phase' : ℕ) → 1 ≤ phase → phase' ≤ 3 → phase' ≡ suc phase
      → ReaderSteps (suc made) phase' pos'
  step_on phase' lo hi e =
      record {
        early = λ x y. omega (arith, v.early lo (omega arith));
        bound = λ x. absurd (omega arith);
        late = λ x. absurd (omega arith);
      }

  -- step 1 or step 3, to the size step
  pub step_binds : {pos' : ℕ} → (phase ≡ 1) ⊎ (phase ≡ 3) → ReaderSteps (suc made) 4 pos'
  step_binds p =
      record { early = λ x y. absurd (omega arith); bound = λ x. go p; late = λ x. absurd (omega arith) }
    where
      go : (phase ≡ 1) ⊎ (phase ≡ 3) → Turns (suc made) 1
      go (inl e) = inl (omega (arith, v.early (omega arith) (omega arith)))
      go (inr e) = inr (omega (arith, v.early (omega arith) (omega arith)))

  pub step_sizes : phase ≡ 4 → ReaderSteps (suc made) 5 0
  step_sizes e =
      record {
        early = λ x y. absurd (omega arith);
        bound = λ x. absurd (omega arith);
        late = λ x. one_turn_more (0 + 2) (omega arith) (v.bound e);
      }

  pub step_copies : phase ≡ 5 → ReaderSteps (suc made) phase (suc pos)
  step_copies e =
      record {
        early = λ x y. absurd (omega arith);
        bound = λ x. absurd (omega arith);
        late = λ x. one_turn_more (suc pos + 2) (omega arith) (v.late e);
      }

  -- a read of L words that ends has taken L + 2 or L + 4
  pub ends_exactly : {k : ℕ} (words : ℕ) → suc k ≡ words + 2 → Turns made k
      → (suc made ≡ words + 2) ⊎ (suc made ≡ words + 4)
  ends_exactly words e (inl x) = inl (omega arith)
  ends_exactly words e (inr x) = inr (omega arith)

  -- under way it has taken fewer
  pub few_early : phase ≢ 0 → phase ≤ 4 → made < 4
  few_early d hi = go (ℕ_discrete phase 4)
    where
      at_size : Turns made 1 → made < 4
      at_size (inl x) = omega arith
      at_size (inr x) = omega arith

      go : Dec (phase ≡ 4) → made < 4
      go (yes e) = at_size (v.bound e)
      go (no x) = omega (arith, v.early (omega arith) (omega arith))

  pub few_late : phase ≡ 5 → made ≤ pos + 4
  few_late e = go (v.late e)
    where
      go : Turns made (pos + 2) → made ≤ pos + 4
      go (inl x) = omega arith
      go (inr x) = omega arith

-- ---- the writer under way; `new` and `seen` are the length and the looks of the newest published write

pub record WriterSteps (n looks made phase hand len pos new seen : ℕ) : Type 0 where
  pub scanned : phase ≡ 1 → (looks ≡ hand) × (made ≡ hand)
  pub few : 2 ≤ phase → looks ≤ n + 2
  pub copying : phase ≡ 2 → made ≡ looks + pos
  pub rest : 3 ≤ phase → phase ≤ 6 → made + 3 ≡ looks + len + phase
  pub told : phase ≡ 7 → (made ≡ looks + len + 4) × (len ≡ new) × (looks ≡ seen)

module _ {n looks made phase hand len pos new seen : ℕ}
    (v : WriterSteps n looks made phase hand len pos new seen) where
  pub look_finds : (phase' : ℕ) → phase ≡ 1 → hand < n + 2 → (phase' ≡ 2 → pos ≡ 0)
      → (phase' ≡ 3 → len ≡ 0) → 2 ≤ phase' → phase' ≤ 3
      → WriterSteps n (suc looks) (suc made) phase' hand len pos new seen
  look_finds phase' e l z z' lo hi =
      record {
        scanned = λ x. absurd (omega arith);
        few = λ x. omega (arith, v.scanned e);
        copying = λ x. omega (arith, v.scanned e, z x);
        rest = λ x y. omega (arith, v.scanned e, z' (omega arith));
        told = λ x. absurd (omega arith);
      }

  pub look_passes : phase ≡ 1 → WriterSteps n (suc looks) (suc made) phase (suc hand) len pos new seen
  look_passes e =
      record {
        scanned = λ x. omega (arith, v.scanned e);
        few = λ x. absurd (omega arith);
        copying = λ x. absurd (omega arith);
        rest = λ x y. absurd (omega arith);
        told = λ x. absurd (omega arith);
      }

  pub fill_steps : phase ≡ 2 → WriterSteps n looks (suc made) 2 hand len (suc pos) new seen
  fill_steps e =
      record {
        scanned = λ x. absurd (omega arith);
        few = λ x. v.few (omega arith);
        copying = λ x. omega (arith, v.copying e);
        rest = λ x y. absurd (omega arith);
        told = λ x. absurd (omega arith);
      }

  pub fill_last : phase ≡ 2 → suc pos ≡ len → WriterSteps n looks (suc made) 3 hand len (suc pos) new seen
  fill_last e d =
      record {
        scanned = λ x. absurd (omega arith);
        few = λ x. v.few (omega arith);
        copying = λ x. absurd (omega arith);
        rest = λ x y. omega (arith, v.copying e);
        told = λ x. absurd (omega arith);
      }

  pub next_step : (phase' : ℕ) → 3 ≤ phase → phase ≤ 5 → phase' ≡ suc phase
      → WriterSteps n looks (suc made) phase' hand len pos new seen
  next_step phase' lo hi e =
      record {
        scanned = λ x. absurd (omega arith);
        few = λ x. v.few (omega arith);
        copying = λ x. absurd (omega arith);
        rest = λ x y. omega (arith, v.rest lo (omega arith));
        told = λ x. absurd (omega arith);
      }

  pub publish_step : (new' : ℕ) → phase ≡ 6 → len ≡ new'
      → WriterSteps n looks (suc made) 7 hand len pos new' looks
  publish_step new' e d =
      record {
        scanned = λ x. absurd (omega arith);
        few = λ x. v.few (omega arith);
        copying = λ x. absurd (omega arith);
        rest = λ x y. absurd (omega arith);
        told = λ x. (omega (arith, v.rest (omega arith) (omega arith)), d, refl);
      }

pub begin_steps : {n len pos new seen : ℕ} → WriterSteps n 0 0 1 0 len pos new seen
begin_steps =
    record {
      scanned = λ x. (refl, refl);
      few = λ x. absurd (omega arith);
      copying = λ x. absurd (omega arith);
      rest = λ x y. absurd (omega arith);
      told = λ x. absurd (omega arith);
    }

pub no_steps : {n looks made hand len pos new seen : ℕ} → WriterSteps n looks made 0 hand len pos new seen
no_steps =
    record {
      scanned = λ x. absurd (omega arith);
      few = λ x. absurd (omega arith);
      copying = λ x. absurd (omega arith);
      rest = λ x y. absurd (omega arith);
      told = λ x. absurd (omega arith);
    }
