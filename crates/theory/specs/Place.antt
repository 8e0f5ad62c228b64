-- Places, memories and stores: what a step does, said without addresses. Assumes nothing.
use Rattle.std.specs.Prelude.{cond, List, [], ◌∷◌, ℕ, suc, eqb}

-- a record of the board, by its words
abbrev pub Record : Type 0
Record = List ℕ

-- a place of the area: the part that it is in, the field of that part's rows, the row, and the word of the field
pub record Place : Type 0 where
  pub part : ℕ
  pub field : ℕ
  pub row : ℕ
  pub column : ℕ

-- what every place holds
abbrev pub Memory : Type 0
Memory = Place → ℕ

-- one place changed. Part and field are tested first, so that a change of another field computes away
abbrev pub changed : Memory → Place → ℕ → Memory
changed m p v q =
    cond (eqb q.part p.part)
    (cond (eqb q.field p.field)
    (cond (eqb q.row p.row) (cond (eqb q.column p.column) v (m q)) (m q)) (m q)) (m q)

-- a store: a place and the value that it is given
pub record Store : Type 0 where
  pub place : Place
  pub value : ℕ

abbrev pub ◌≔◌ : Place → ℕ → Store
p ≔ v = record { place = p; value = v }

infix 68 ◌≔◌
-- stores, one after another
abbrev pub apply : Memory → List Store → Memory
apply m [] = m
apply m (s ∷ l) = apply (changed m s.place s.value) l

-- the stores that put a record's words into a row, from column i on
abbrev pub copied : (ℕ → Place) → ℕ → Record → List Store
copied at i [] = []
copied at i (x ∷ v) = at i ≔ x ∷ copied at (suc i) v
