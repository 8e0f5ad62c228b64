-- The age of document 02's request 1, computed from the definitions: a read that ends while the writer sleeps before
-- its last step, and altered areas with the writer in each phase and at the limits of a word. Assumes nothing.
use mathlib.Core.Path.{◌≡◌, refl}
use mathlib.Core.List.{List, [], ◌∷◌, ◌++◌, map}
use Prim.Native.Nat.{ℕ}
use lib.ListN.{replicate}
use Rattle.register.specs.Area.{writes_ended, most_writes, memory, is_area, slot_sound, desk_sound}
use Rattle.register.specs.Area.{writer_sound, undamaged}
use Rattle.register.specs.Steps.{reader_step, writer_step, Move, read, step}
use Rattle.register.specs.Calls.{carried_out, answered, after, is_own, shown}
use Rattle.theory.specs.Lists.{Each, none, also}
use Rattle.register.proofs.SmallRuns.{Row, row_of, said, answer_to, area_p1, written}

-- ---- a read beside a write

-- on P1's area the reader begins, takes the size, and sleeps before its last step, a copy; the writer writes 8, and is
-- then in phase 6, before the publication
abbrev beside : List Move
beside = (read 0 ∷ step 0 ∷ step 0 ∷ []) ++ written (8 ∷ []) 6

-- every word then: the header, slots 0 to 2, the reader's desk, the writer's desk
abbrev in_phase_6 : List ℕ
in_phase_6 =
    (1 ∷ 1 ∷ 1 ∷ 38 ∷ 8 ∷ 23 ∷ 30 ∷ 1 ∷ [])
    ++ (0 ∷ 0 ∷ 1 ∷ 0 ∷ 7 ∷ []) ++ (0 ∷ 0 ∷ 1 ∷ 1 ∷ 8 ∷ []) ++ (0 ∷ 0 ∷ 0 ∷ 0 ∷ 0 ∷ [])
    ++ (5 ∷ 0 ∷ 0 ∷ 1 ∷ 0 ∷ 0 ∷ 0 ∷ []) ++ (6 ∷ 0 ∷ 1 ∷ 1 ∷ 1 ∷ 0 ∷ 0 ∷ 8 ∷ [])

-- some moves more, and a step of the reader: number, ended, age, its record
abbrev then_read : List Move → List ℕ
then_read l = said (answer_to in_phase_6 l (step 0))

-- ---- altered areas

-- two readers, records of two words: what reader 1's slot and desk begin with, the writer's phase and writes ended
abbrev altered : List ℕ → List ℕ → ℕ → ℕ → List ℕ
altered slot desk phase ended =
    (1 ∷ 2 ∷ 2 ∷ 57 ∷ 8 ∷ 32 ∷ 48 ∷ 2 ∷ []) ++ slot ++ (5 ∷ 6 ∷ []) ++ replicate 18 0
    ++ replicate 8 0 ++ desk ++ (0 ∷ 0 ∷ 0 ∷ [])
    ++ (phase ∷ 0 ∷ 1 ∷ 0 ∷ 2 ∷ 0 ∷ ended ∷ 0 ∷ 0 ∷ [])

-- reader 1 has one word of two left to copy, and its read this write number; the slot's own has changed since
abbrev last_word : ℕ → ℕ → ℕ → List ℕ
last_word number = altered (0 ∷ 0 ∷ 2 ∷ 77 ∷ []) (5 ∷ 0 ∷ 1 ∷ 2 ∷ number ∷ [])

-- it takes size and write number of a slot of no words
abbrev no_words : ℕ → ℕ → ℕ → List ℕ
no_words number = altered (0 ∷ 0 ∷ 0 ∷ number ∷ []) (4 ∷ 0 ∷ 1 ∷ 2 ∷ 77 ∷ [])

-- number and age of the step that ends the read
abbrev ends : List ℕ → List ℕ
ends a = (answered a (step 1)).number ∷ (answered a (step 1)).age ∷ []

-- the number before the most that writes ended may be
abbrev almost : ℕ
almost = 18446744073709551614

abbrev phases : List ℕ
phases = 0 ∷ 1 ∷ 2 ∷ 3 ∷ 4 ∷ 5 ∷ 6 ∷ 7 ∷ []

abbrev rows : List Row
rows =
    row_of (after area_p1 beside) in_phase_6
    -- the read ends in phase 6: age 0; in phase 7: age 1, though writes ended is still 0; and when the write has ended
    ∷ row_of (then_read []) (0 ∷ 1 ∷ 0 ∷ 7 ∷ [])
    ∷ row_of (then_read (step 1 ∷ [])) (0 ∷ 1 ∷ 1 ∷ 7 ∷ [])
    ∷ row_of (memory (after in_phase_6 (step 1 ∷ step 0 ∷ [])) writes_ended ∷ []) (0 ∷ [])
    ∷ row_of (then_read (step 1 ∷ step 1 ∷ [])) (0 ∷ 1 ∷ 1 ∷ 7 ∷ [])
    -- the next read gets the new record, age 0, while the writer still sleeps
    ∷ row_of (then_read (step 1 ∷ step 0 ∷ read 0 ∷ replicate 4 (step 0))) (0 ∷ 1 ∷ 0 ∷ 8 ∷ [])
    -- the writer in each phase
    ∷ row_of (map (λ p. (answered (last_word 1 p 3) (step 1)).age) phases)
    (2 ∷ 2 ∷ 2 ∷ 2 ∷ 2 ∷ 2 ∷ 2 ∷ 3 ∷ [])
    ∷ row_of (map (λ p. (answered (no_words 1 p 3) (step 1)).age) (6 ∷ 7 ∷ [])) (2 ∷ 3 ∷ [])
    -- a write number above the writes ended: 0, never a wrap
    ∷ row_of (ends (last_word 5 0 3)) (0 ∷ 0 ∷ [])
    ∷ row_of (ends (last_word 5 7 3)) (0 ∷ 0 ∷ [])
    ∷ row_of (ends (last_word 4 7 3)) (0 ∷ 0 ∷ [])
    ∷ row_of (ends (last_word most_writes 0 0)) (0 ∷ 0 ∷ [])
    -- writes ended 2^64 − 2 in phase 7: the sum is 2^64 − 1; one more would be damage
    ∷ row_of (ends (last_word 0 7 almost)) (0 ∷ most_writes ∷ [])
    ∷ row_of (ends (last_word almost 7 almost)) (0 ∷ 1 ∷ [])
    ∷ row_of (ends (last_word most_writes 7 almost)) (0 ∷ 0 ∷ [])
    ∷ row_of (ends (last_word 0 0 most_writes)) (0 ∷ most_writes ∷ [])
    ∷ row_of (ends (last_word 0 7 most_writes)) (2 ∷ 0 ∷ [])
    ∷ []

pub age_runs_hold : Each (λ x. x.given ≡ x.wanted) rows
unfolding is_area slot_sound desk_sound writer_sound undamaged reader_step writer_step carried_out answered is_own shown
age_runs_hold =
    also refl (also refl (also refl (also refl (also refl (also refl (also refl (also refl (also refl
    (also refl (also refl (also refl (also refl (also refl (also refl (also refl (also refl none))))))))))))))))
