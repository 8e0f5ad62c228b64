-- Document 01's small runs marked P, computed from the definitions: one statement over one table. Assumes nothing.
use mathlib.Core.Path.{◌≡◌, refl}
use mathlib.Core.Bool.{Bool, true, false}
use mathlib.Core.List.{List, [], ◌∷◌, ◌++◌, map}
use Prim.Native.Nat.{ℕ}
use lib.ListN.{get_or, set, take, replicate}
use Rattle.theory.specs.Place.{Record}
use Rattle.theory.specs.Table.{total}
use Rattle.register.specs.Shape.{shape, table}
use Rattle.register.specs.Area.{current, writer_phase, in_hand, is_area, slot_sound, desk_sound, writer_sound}
use Rattle.register.specs.Area.{undamaged, memory}
use Rattle.register.specs.Steps.{reader_step, writer_step, Move, read, write, step, unless}
use Rattle.register.specs.Calls.{Answer, fresh, made, call_tests, carried_out, answered, is_own, shown, after}
use Rattle.theory.specs.Lists.{Each, none, also}

-- the answer to a move after some others
abbrev pub answer_to : List ℕ → List Move → Move → Answer
answer_to a l x = answered (after a l) x

abbrev pub flag : Bool → ℕ
flag true = 1
flag false = 0

-- number, ended, age, and the record that reader 0 then shows
abbrev pub said : Answer → List ℕ
said x = x.number ∷ flag x.ended ∷ x.age ∷ shown x.area 0 []

-- a write of a record, in so many steps of the writer, which is process 1
abbrev pub written : Record → ℕ → List Move
written v k = write v ∷ replicate k (step 1)

abbrev pub area_p1 : List ℕ
area_p1 = fresh (shape 1 1 1) (7 ∷ [])

abbrev area_p8 : List ℕ
area_p8 = fresh (shape 1 1 2) (1 ∷ 2 ∷ [])

-- P1's area with a reader in phase 6, and what the tests of a call that a form has or lacks give
abbrev damaged_p1 : List ℕ
damaged_p1 = set area_p1 23 6

abbrev tested : List ℕ → Bool → ℕ
tested a has = unless (λ k. k) (call_tests a has) 0

-- the moves of input A, of which the last is refused
abbrev pub input_a : List Move
input_a = written (8 ∷ []) 7 ++ (read 0 ∷ replicate 5 (step 0)) ++ (step 1 ∷ step 0 ∷ [])

abbrev pub current_word : List ℕ → ℕ
current_word a = memory a current

-- what the definitions give, and what document 01 says
pub record Row : Type 0 where
  pub given : List ℕ
  pub wanted : List ℕ

abbrev pub row_of : List ℕ → List ℕ → Row
row_of x y = record { given = x; wanted = y }

-- P1's area after a whole write of 8, every word: the header, slots 0 to 2, the reader's desk, the writer's desk
abbrev area8 : List ℕ
area8 =
    (1 ∷ 1 ∷ 1 ∷ 38 ∷ 8 ∷ 23 ∷ 30 ∷ 4294967296 ∷ [])
    ++ (1 ∷ 0 ∷ 1 ∷ 0 ∷ 7 ∷ []) ++ (0 ∷ 0 ∷ 1 ∷ 1 ∷ 8 ∷ []) ++ (0 ∷ 0 ∷ 0 ∷ 0 ∷ 0 ∷ [])
    ++ (0 ∷ 0 ∷ 0 ∷ 0 ∷ 0 ∷ 0 ∷ 0 ∷ []) ++ (0 ∷ 1 ∷ 1 ∷ 1 ∷ 1 ∷ 1 ∷ 1 ∷ 8 ∷ [])

-- the writer's phase after each of some moves
abbrev writer_phases : List ℕ → List Move → List ℕ
writer_phases a [] = []
writer_phases a (x ∷ l) = memory (answered a x).area writer_phase ∷ writer_phases (answered a x).area l

-- an answer, and the current word that it leaves
abbrev said_and_left : Answer → List ℕ
said_and_left x = current_word x.area ∷ said x

abbrev paused : List Move
paused = (read 0 ∷ replicate 3 (step 0)) ++ written (3 ∷ 4 ∷ []) 9 ++ written (5 ∷ 6 ∷ []) 10

abbrev pub small_runs : List Row
small_runs =
    -- P1
    row_of (get_or area_p1 3 0 ∷ get_or area_p1 4 0 ∷ get_or area_p1 5 0 ∷ get_or area_p1 6 0
    ∷ current_word area_p1 ∷ [])
    (38 ∷ 8 ∷ 23 ∷ 30 ∷ 1 ∷ [])
    -- P2, P3
    ∷ row_of (total (table (shape 1 2 2)) ∷ total (table (shape 1 64 256)) ∷ []) (57 ∷ 34199 ∷ [])
    -- P4, P5
    ∷ row_of (current_word (after area_p1 (take 8 input_a)) ∷ current_word (after area_p1 (take 12 input_a)) ∷ [])
    (4294967296 ∷ 4294967297 ∷ [])
    -- P6
    ∷ row_of (said_and_left (answer_to area_p1 (read 0 ∷ step 0 ∷ step 0 ∷ []) (step 0)))
    (1 ∷ 0 ∷ 1 ∷ 0 ∷ 7 ∷ [])
    -- P7: the writer's phase after its begin and each step: it looks in phase 1; then the slot of each write
    ∷ row_of (writer_phases area_p1 (written (8 ∷ []) 2)) (1 ∷ 1 ∷ 2 ∷ [])
    ∷ row_of (after area_p1 (written (8 ∷ []) 8)) area8
    ∷ row_of (writer_phases area8 (written (9 ∷ []) 3)) (1 ∷ 1 ∷ 1 ∷ 2 ∷ [])
    ∷ row_of (memory area8 in_hand ∷ memory (after area8 (written (9 ∷ []) 9)) in_hand ∷ []) (1 ∷ 2 ∷ [])
    -- P8
    ∷ row_of (said (answer_to area_p8 paused (step 0))) (0 ∷ 1 ∷ 2 ∷ 1 ∷ 2 ∷ [])
    -- P9
    ∷ row_of
    ((answered area_p8 (write (3 ∷ 4 ∷ []))).number
    ∷ (answered area_p8 (write (3 ∷ 4 ∷ 5 ∷ []))).number
    ∷ (answer_to area_p8 (write [] ∷ []) (write (3 ∷ 4 ∷ 5 ∷ []))).number
    ∷ [])
    (0 ∷ 4 ∷ 4 ∷ [])
    -- forms 0, 1 and 2 at making, and form 2 in word 0; a call that the form lacks, on an undamaged area and on a
    -- damaged one, and one that it has on the damaged one
    ∷ row_of
    (map (λ f. (made (shape f 1 1) [] area_p1).number) (0 ∷ 1 ∷ 2 ∷ [])
    ++ ((answered (set area_p1 0 2) (read 0)).number ∷ []))
    (9 ∷ 0 ∷ 9 ∷ 1 ∷ [])
    ∷ row_of (tested area_p1 false ∷ tested damaged_p1 false ∷ tested damaged_p1 true ∷ []) (1 ∷ 1 ∷ 2 ∷ [])
    -- P10
    ∷ row_of ((answered area_p1 (step 0)).number ∷ (answered area_p1 (step 1)).number ∷ []) (6 ∷ 6 ∷ [])
    ∷ []

-- every row holds
pub small_runs_hold : Each (λ x. x.given ≡ x.wanted) small_runs
unfolding is_area slot_sound desk_sound writer_sound undamaged reader_step writer_step made carried_out answered is_own
    shown
small_runs_hold =
    also refl
    (also refl (also refl (also refl (also refl (also refl
    (also refl (also refl (also refl (also refl (also refl (also refl (also refl none))))))))))))
