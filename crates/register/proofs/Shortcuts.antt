-- The runs that break document 01's four shortcuts, computed from the definitions: here each read gives what it
-- should, and a slot filled again has every word as an independent program has it. Assumes nothing.
use mathlib.Core.Path.{◌≡◌, refl}
use mathlib.Core.List.{List, [], ◌∷◌, ◌++◌}
use Prim.Native.Nat.{ℕ}
use lib.ListN.{replicate}
use Rattle.register.specs.Shape.{shape}
use Rattle.register.specs.Area.{is_area, slot_sound, desk_sound, writer_sound, undamaged}
use Rattle.register.specs.Steps.{reader_step, writer_step, Move, read, write, step}
use Rattle.register.specs.Calls.{fresh, carried_out, answered, is_own, shown, after}
use Rattle.theory.specs.Lists.{Each, none, also}
use Rattle.register.proofs.SmallRuns.{Row, row_of, said, answer_to, current_word}

-- one reader, records of at most one word; the starting record is 5, the writes are 6 and 7
abbrev area5 : List ℕ
area5 = fresh (shape 1 1 1) (5 ∷ [])

abbrev write6 : Move
write6 = write (6 ∷ [])

abbrev write7 : Move
write7 = write (7 ∷ [])

-- a reader that looks before it is counted: a read on one publication counts once
abbrev counted_once : List Move
counted_once = read 0 ∷ step 0 ∷ step 0 ∷ []

-- a slot that stays bound when the copy ends
abbrev bound_after_copy : List Move
bound_after_copy =
    (read 0 ∷ write6 ∷ replicate 3 (step 0)) ++ (read 0 ∷ step 0 ∷ step 0 ∷ replicate 8 (step 1))
    ++ (write7 ∷ step 1 ∷ step 1 ∷ [])

-- r_start that is frozen from the old counter
abbrev frozen_old : List Move
frozen_old = (read 0 ∷ write6 ∷ step 0 ∷ step 0 ∷ replicate 8 (step 1)) ++ (write7 ∷ step 1 ∷ step 1 ∷ [])

-- a writer that leaves its own last slot alone
abbrev last_slot_kept : List Move
last_slot_kept = read 0 ∷ write6 ∷ step 0 ∷ step 0 ∷ step 1 ∷ step 1 ∷ []

-- a slot filled again: write 6 goes to slot 1, the reader follows, write 7 goes to slot 0
abbrev filled_again : List Move
filled_again =
    (write6 ∷ replicate 8 (step 1)) ++ (read 0 ∷ replicate 5 (step 0)) ++ (write7 ∷ replicate 7 (step 1))

abbrev rows : List Row
rows =
    row_of (current_word (after (fresh (shape 1 1 1) []) counted_once) ∷ []) (1 ∷ [])
    ∷ row_of (said (answer_to area5 bound_after_copy (step 0))) (0 ∷ 1 ∷ 1 ∷ 5 ∷ [])
    ∷ row_of (said (answer_to area5 frozen_old (step 0))) (0 ∷ 1 ∷ 1 ∷ 5 ∷ [])
    ∷ row_of (said (answer_to area5 last_slot_kept (step 0))) (0 ∷ 1 ∷ 0 ∷ 5 ∷ [])
    -- every word: the header, slots 0 to 2, the reader's desk, the writer's desk
    ∷ row_of (after area5 filled_again)
    ((1 ∷ 1 ∷ 1 ∷ 38 ∷ 8 ∷ 23 ∷ 30 ∷ 0 ∷ [])
    ++ (0 ∷ 0 ∷ 1 ∷ 2 ∷ 7 ∷ [])
    ++ (1 ∷ 0 ∷ 1 ∷ 1 ∷ 6 ∷ [])
    ++ (0 ∷ 0 ∷ 0 ∷ 0 ∷ 0 ∷ [])
    ++ (0 ∷ 1 ∷ 1 ∷ 1 ∷ 1 ∷ 1 ∷ 6 ∷ [])
    ++ (0 ∷ 0 ∷ 0 ∷ 1 ∷ 1 ∷ 4294967297 ∷ 2 ∷ 7 ∷ []))
    ∷ []

pub shortcuts_avoided : Each (λ x. x.given ≡ x.wanted) rows
unfolding is_area slot_sound desk_sound writer_sound undamaged reader_step writer_step carried_out answered is_own shown
shortcuts_avoided = also refl (also refl (also refl (also refl (also refl none))))
