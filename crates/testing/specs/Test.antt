-- What the test of any words gives: a layout, or a refusal. Assumes nothing.
use Rattle.std.specs.Prelude.{Bool, cond, List, [], ◌∷◌, ℕ, eqb, length, get_or}
use Rattle.std.specs.Prelude.{Result, Ok, Err, Option, Some, None}
use Rattle.register.specs.Area.{shape_of, is_area, undamaged}
use Rattle.area.specs.declared.Layout.{Layout}
use Rattle.area.specs.Words.{layout_of}
use Rattle.answer.specs.declared.refusals.Refusal.{Refusal}
use Rattle.answer.specs.declared.refusals.Refusal.TheVariants.{NotAnArea, Damaged}
use Rattle.answer.specs.Refusals.{number_of}

-- words 3 to 6 and the number of words are those of a layout
abbrev pub fit_tests : Layout → List ℕ → List Bool
fit_tests p a =
    eqb (get_or a 3 0) p.total
    ∷ eqb (get_or a 4 0) p.slots
    ∷ eqb (get_or a 5 0) p.desks
    ∷ eqb (get_or a 6 0) p.writer
    ∷ eqb (length a) p.total
    ∷ []

-- 1 not an area, 2 damaged, 0 an undamaged area
unfoldable pub test_number : List ℕ → ℕ
test_number a = cond (is_area a) (cond (undamaged a) 0 2) 1

-- the layout that words name, if they are an area
abbrev pub named : List ℕ → Option Layout
named a = cond (is_area a) (Some (layout_of (shape_of a))) None

-- the layout that an undamaged area names, or why words are none
unfoldable pub test_result : List ℕ → Result Layout Refusal
test_result a = cond (is_area a) (cond (undamaged a) (Ok (layout_of (shape_of a))) (Err Damaged)) (Err NotAnArea)

-- the refusal in such a result, if there is one
abbrev pub why : Result Layout Refusal → Option Refusal
why (Ok p) = None
why (Err e) = Some e

-- the number that document 01 gives such a result
abbrev pub result_number : Result Layout Refusal → ℕ
result_number (Ok p) = 0
result_number (Err e) = number_of e
