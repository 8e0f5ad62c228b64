-- How `later_published` counts: computed from the definitions, beside the rule of document 01, and by its laws.
--     age_s, two_counted                  computed
--     all_later                           how many are later than a number, where all were published before now
--     not_counted, closed_counted         a later publication, and the end of a write, change no count
-- Assumes nothing.
use mathlib.Core.Path.{◌≡◌, refl, ap, ◌∙◌}
use mathlib.Core.Bool.{Bool, true, false, cond, ◌&&◌}
use mathlib.Core.List.{List, [], ◌∷◌}
use Prim.Native.Nat.{ℕ, suc, ◌+◌, ◌-◌, ◌≤◌, ◌<◌}
use native.Mathlib.Decide.{dec_lt}
use native.Mathlib.Omega.{arith}
use lib.Dec.{ltb}
use lib.ListN.{length}
use borrow.Author.Tests.{lt-ltb, le-ltb}
use Rattle.theory.specs.Lists.{Each, none, also}
use Rattle.theory.specs.History.{Write, closed}
use Rattle.atomic.specs.Demands.{later_published}

-- document 01's: how many writes had ended before move t
abbrev ended_before : ℕ → List Write → ℕ
ended_before t [] = 0
ended_before t (w ∷ l) = cond (ltb w.end t) 1 0 + ended_before t l

-- the write of `Asleep`: it has not ended, so its end is all moves
abbrev pub write_s : Write
write_s = record { begin = 3; publication = 10; end = 12; steps = 7; looks = 2; gives = 8 ∷ [] }

-- a read of the starting record that ends by move 11: one later write was published, and none had ended
age_s : later_published 0 11 (write_s ∷ []) ∷ (ended_before 11 (write_s ∷ []) - 0) ∷ [] ≡ 1 ∷ 0 ∷ []
age_s = refl

-- two writes, the first published by move 14 and ended by move 16, the second published by move 32
abbrev two_writes : List Write
two_writes =
    record { begin = 26; publication = 32; end = 34; steps = 6; looks = 1; gives = 9 ∷ [] }
    ∷ record { begin = 0; publication = 14; end = 16; steps = 8; looks = 2; gives = 8 ∷ [] } ∷ []

-- reads of write 1 that end by moves 33 and 22, reads of the starting record that end by moves 15 and 10
two_counted : later_published 1 33 two_writes ∷ later_published 1 22 two_writes ∷ later_published 0 15 two_writes
    ∷ later_published 0 10 two_writes ∷ []
    ≡ 1 ∷ 0 ∷ 1 ∷ 0 ∷ []
two_counted = refl

-- ---- its laws

-- one write counts if it is later and was published, and not otherwise
counts : {later published : Bool} (x : ℕ) → later ≡ true → published ≡ true
    → cond (later && published) 1 0 + x ≡ suc x
counts x e f = rw (e, f) (omega arith)

counts_not : (later published : Bool) (x : ℕ) → later && published ≡ false
    → cond (later && published) 1 0 + x ≡ x
counts_not later published x e = rw e (omega arith)

-- where all writes were published before now, those later than number k are all but the first k
pub all_later : (k now : ℕ) (writes : List Write) → Each (λ w. w.publication < now) writes
    → later_published k now writes ≡ length writes - k
all_later k now [] none = omega arith
all_later k now (w ∷ writes) (also b rest) = go (all_later k now writes rest) (dec_lt k (suc (length writes)))
  where
    go : later_published k now writes ≡ length writes - k → Dec (k < suc (length writes))
        → later_published k now (w ∷ writes) ≡ suc (length writes) - k
    go e (yes l) =
        counts (later_published k now writes) (lt-ltb k (suc (length writes)) l) (lt-ltb w.publication now b)
        ∙ omega (arith, e)
    go e (no d) =
        counts_not (ltb k (suc (length writes))) (ltb w.publication now) (later_published k now writes)
        (ap (λ q. q && ltb w.publication now) (le-ltb k (suc (length writes)) (omega arith)))
        ∙ omega (arith, e)

-- a write that is published at t or later is not counted before t
pub not_counted : (k t : ℕ) (w : Write) (writes : List Write) → t ≤ w.publication
    → later_published k t (w ∷ writes) ≡ later_published k t writes
not_counted k t w writes l =
    counts_not (ltb k (suc (length writes))) (ltb w.publication t) (later_published k t writes)
    (ap (λ q. ltb k (suc (length writes)) && q) (le-ltb w.publication t l)
    ∙ and_false (ltb k (suc (length writes))))
  where
    and_false : (b : Bool) → b && false ≡ false
    and_false true = refl
    and_false false = refl

-- the end of a write moves no publication
pub closed_counted : (k t now steps : ℕ) (writes : List Write)
    → later_published k t (closed now steps writes) ≡ later_published k t writes
closed_counted k t now steps [] = refl
closed_counted k t now steps (w ∷ writes) = refl
