-- What every call touches, computed on an area in which no two words that could be taken for one another agree: its
-- number, 1 if an operation ended, its age, and of each word that differs the address, what it was, what it is.
-- Assumes nothing.
use mathlib.Core.Path.{◌≡◌, refl}
use mathlib.Core.Bool.{cond}
use mathlib.Core.List.{List, [], ◌∷◌, ◌++◌}
use Prim.Native.Nat.{ℕ, suc}
use lib.Dec.{eqb}
use lib.ListN.{replicate}
use Rattle.register.specs.Shape.{shape}
use Rattle.register.specs.Area.{is_area, slot_sound, desk_sound, writer_sound, undamaged}
use Rattle.register.specs.Steps.{reader_step, writer_step, Move, read, write, step}
use Rattle.register.specs.Calls.{fresh, carried_out, answered}
use Rattle.theory.specs.Lists.{Each, none, also}
use Rattle.register.proofs.SmallRuns.{flag, Row, row_of}

-- two readers, records of at most three words
abbrev area_of : List ℕ → List ℕ → List ℕ
area_of reader writer =
    (1 ∷ 2 ∷ 3 ∷ 64 ∷ 8 ∷ 36 ∷ 54 ∷ 12884901889 ∷ [])
    ++ (1 ∷ 2 ∷ 3 ∷ 41 ∷ 101 ∷ 102 ∷ 103 ∷ [])
    ++ (2 ∷ 1 ∷ 2 ∷ 42 ∷ 111 ∷ 112 ∷ 113 ∷ [])
    ++ (2 ∷ 2 ∷ 3 ∷ 43 ∷ 121 ∷ 122 ∷ 123 ∷ [])
    ++ (1 ∷ 0 ∷ 0 ∷ 44 ∷ 131 ∷ 132 ∷ 133 ∷ [])
    ++ reader ++ (51 ∷ 0 ∷ 61 ∷ 62 ∷ 63 ∷ [])
    ++ (0 ∷ 2 ∷ 0 ∷ 1 ∷ 52 ∷ 1 ∷ 71 ∷ 72 ∷ 73 ∷ [])
    ++ writer ++ (4294967297 ∷ 81 ∷ 91 ∷ 92 ∷ 93 ∷ [])

-- reader 0 in a phase, bound to a slot, at a word; the writer in a phase, with a slot in hand, at a word
abbrev reading_at : ℕ → ℕ → ℕ → List ℕ
reading_at p last pos = area_of (p ∷ last ∷ pos ∷ 3 ∷ []) (0 ∷ 0 ∷ 2 ∷ 1 ∷ 2 ∷ [])

abbrev writing_at : ℕ → ℕ → ℕ → ℕ → List ℕ
writing_at p hand pos len = area_of (0 ∷ 1 ∷ 1 ∷ 3 ∷ []) (p ∷ 0 ∷ hand ∷ pos ∷ len ∷ [])

abbrev changes : ℕ → List ℕ → List ℕ → List ℕ
changes i [] [] = []
changes i [] (y ∷ b) = i ∷ 0 ∷ y ∷ changes (suc i) [] b
changes i (x ∷ a) [] = i ∷ x ∷ 0 ∷ changes (suc i) a []
changes i (x ∷ a) (y ∷ b) = cond (eqb x y) (changes (suc i) a b) (i ∷ x ∷ y ∷ changes (suc i) a b)

abbrev touched : List ℕ → Move → List ℕ
touched a x =
    (answered a x).number ∷ flag (answered a x).ended ∷ (answered a x).age
    ∷ changes 0 a (answered a x).area

abbrev rows : List Row
rows =
    -- a fresh area, every word
    row_of (fresh (shape 1 2 2) (7 ∷ []))
    ((1 ∷ 2 ∷ 2 ∷ 57 ∷ 8 ∷ 32 ∷ 48 ∷ 2 ∷ []) ++ (0 ∷ 0 ∷ 1 ∷ 0 ∷ 7 ∷ []) ++ replicate 44 0)
    -- the begins
    ∷ row_of (touched (reading_at 0 1 1) (read 1)) (0 ∷ 0 ∷ 0 ∷ (45 ∷ 0 ∷ 1 ∷ []))
    ∷ row_of (touched (reading_at 0 1 1) (read 0)) (0 ∷ 0 ∷ 0 ∷ (36 ∷ 0 ∷ 1 ∷ []))
    ∷ row_of (touched (writing_at 0 2 1 2) (write (9 ∷ [])))
    (0 ∷ 0 ∷ 0
    ∷ (54 ∷ 0 ∷ 1 ∷ 56 ∷ 2 ∷ 0 ∷ 57 ∷ 1 ∷ 0 ∷ 58 ∷ 2 ∷ 1 ∷ 61 ∷ 91 ∷ 9 ∷ []))
    -- a reader's steps
    ∷ row_of (touched (reading_at 1 1 1) (step 0)) (0 ∷ 0 ∷ 0 ∷ (36 ∷ 1 ∷ 2 ∷ []))
    ∷ row_of (touched (reading_at 1 3 1) (step 0)) (0 ∷ 0 ∷ 0 ∷ (36 ∷ 1 ∷ 4 ∷ []))
    ∷ row_of (touched (reading_at 2 1 1) (step 0)) (0 ∷ 0 ∷ 0 ∷ (16 ∷ 1 ∷ 2 ∷ 36 ∷ 2 ∷ 3 ∷ []))
    ∷ row_of (touched (reading_at 3 1 1) (step 0))
    (0 ∷ 0 ∷ 0 ∷ (7 ∷ 12884901889 ∷ 12884901890 ∷ 36 ∷ 3 ∷ 4 ∷ 37 ∷ 1 ∷ 3 ∷ []))
    ∷ row_of (touched (reading_at 4 1 1) (step 0))
    (0 ∷ 0 ∷ 0 ∷ (36 ∷ 4 ∷ 5 ∷ 38 ∷ 1 ∷ 0 ∷ 39 ∷ 3 ∷ 2 ∷ 40 ∷ 51 ∷ 42 ∷ []))
    ∷ row_of (touched (reading_at 4 3 1) (step 0))
    (0 ∷ 1 ∷ 37
    ∷ (36 ∷ 4 ∷ 0 ∷ 38 ∷ 1 ∷ 0 ∷ 39 ∷ 3 ∷ 0 ∷ 40 ∷ 51 ∷ 44 ∷ 41 ∷ 0 ∷ 1 ∷ []))
    ∷ row_of (touched (reading_at 5 1 1) (step 0)) (0 ∷ 0 ∷ 0 ∷ (38 ∷ 1 ∷ 2 ∷ 43 ∷ 62 ∷ 112 ∷ []))
    ∷ row_of (touched (reading_at 5 1 2) (step 0))
    (0 ∷ 1 ∷ 30 ∷ (36 ∷ 5 ∷ 0 ∷ 38 ∷ 2 ∷ 3 ∷ 41 ∷ 0 ∷ 1 ∷ 44 ∷ 63 ∷ 113 ∷ []))
    -- the writer's steps
    ∷ row_of (touched (writing_at 1 2 0 2) (step 2)) (0 ∷ 0 ∷ 0 ∷ (54 ∷ 1 ∷ 2 ∷ []))
    ∷ row_of (touched (writing_at 1 2 0 0) (step 2)) (0 ∷ 0 ∷ 0 ∷ (54 ∷ 1 ∷ 3 ∷ []))
    ∷ row_of (touched (writing_at 1 1 0 2) (step 2)) (0 ∷ 0 ∷ 0 ∷ (56 ∷ 1 ∷ 2 ∷ []))
    ∷ row_of (touched (writing_at 2 2 0 2) (step 2)) (0 ∷ 0 ∷ 0 ∷ (26 ∷ 121 ∷ 91 ∷ 57 ∷ 0 ∷ 1 ∷ []))
    ∷ row_of (touched (writing_at 2 2 1 2) (step 2))
    (0 ∷ 0 ∷ 0 ∷ (27 ∷ 122 ∷ 92 ∷ 54 ∷ 2 ∷ 3 ∷ 57 ∷ 1 ∷ 2 ∷ []))
    ∷ row_of (touched (writing_at 3 2 1 2) (step 2))
    (0 ∷ 0 ∷ 0 ∷ (24 ∷ 3 ∷ 2 ∷ 25 ∷ 43 ∷ 82 ∷ 54 ∷ 3 ∷ 4 ∷ []))
    ∷ row_of (touched (writing_at 4 2 1 2) (step 2)) (0 ∷ 0 ∷ 0 ∷ (22 ∷ 2 ∷ 0 ∷ 54 ∷ 4 ∷ 5 ∷ []))
    ∷ row_of (touched (writing_at 5 2 1 2) (step 2)) (0 ∷ 0 ∷ 0 ∷ (23 ∷ 2 ∷ 0 ∷ 54 ∷ 5 ∷ 6 ∷ []))
    ∷ row_of (touched (writing_at 6 2 1 2) (step 2))
    (0 ∷ 0 ∷ 0
    ∷ (7 ∷ 12884901889 ∷ 8589934592 ∷ 54 ∷ 6 ∷ 7 ∷ 59 ∷ 4294967297 ∷ 12884901889 ∷ []))
    ∷ row_of (touched (writing_at 7 2 1 2) (step 2))
    (0 ∷ 1 ∷ 0 ∷ (15 ∷ 2 ∷ 1 ∷ 54 ∷ 7 ∷ 0 ∷ 55 ∷ 0 ∷ 2 ∷ 60 ∷ 81 ∷ 82 ∷ []))
    ∷ []

pub touches : Each (λ x. x.given ≡ x.wanted) rows
unfolding is_area slot_sound desk_sound writer_sound undamaged reader_step writer_step carried_out answered
touches =
    also refl (also refl (also refl (also refl (also refl (also refl (also refl (also refl
    (also refl (also refl (also refl (also refl (also refl (also refl (also refl
    (also refl (also refl (also refl (also refl (also refl (also refl (also refl none)))))))))))))))))))))
