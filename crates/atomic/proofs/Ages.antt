-- The age of a read that ended, on any words: the writes published less its write number, and the sum fits into a word.
--     ages                                the theorem
-- Assumes nothing.
use mathlib.Core.Path.{◌≡◌, sym, ap, ap₂, ◌∙◌}
use mathlib.Core.Bool.{true, true≢false, cond}
use mathlib.Core.List.{List}
use Prim.Native.Nat.{ℕ, ◌+◌, ◌-◌, ◌≤◌, ◌<◌}
use native.Mathlib.Decide.{ℕ_discrete}
use native.Mathlib.Omega.{arith}
use lib.Dec.{eqb}
use lib.ListN.{get_or}
use borrow.Author.Tests.{eq-eqb, ne_eqb}
use Rattle.register.specs.Area.{desk_write_number, memory}
use Rattle.register.specs.Conditions.{word}
use Rattle.register.specs.Stands.{desk, writer}
use Rattle.register.specs.Steps.{step}
use Rattle.register.specs.Calls.{published_writes, stepped}
use Rattle.atomic.specs.Demands.{Less, Aged, Ages}
use Rattle.register.proofs.Facts.{whole_area}
use Rattle.register.proofs.Stands.{words_stand}
use Rattle.atomic.proofs.Called.{Opened, opened, refused_keeps, after_memory}
use Rattle.atomic.proofs.Observed.{same_ended, still, age_before}

-- what ended was accepted
accepted : (a : List ℕ) (r : ℕ) → (stepped a r).ended ≡ true → (stepped a r).number ≡ 0
accepted a r e = go (ℕ_discrete (stepped a r).number 0)
  where
    go : Dec ((stepped a r).number ≡ 0) → (stepped a r).number ≡ 0
    go (yes z) = z
    go (no d) = absurd (true≢false (sym e ∙ (refused_keeps a (step r) d).ended))

less_is : (x y z : ℕ) → z ≡ x - y → Less x y z
less_is x y z e = record { less = λ l. omega arith; not_below = λ l. omega arith }

module _ (a : List ℕ) (r : ℕ) (l : r < word a 1) (o : Opened a (step r)) (e : o.ends ≡ true) where
  abbrev b : List ℕ
  b = (stepped a r).area

  abbrev number : ℕ
  number = desk b r 4

  published_is : published_writes (memory a) ≡ writer a 6 + cond (eqb (writer a 0) 7) 1 0
  published_is =
      let stands = (words_stand a).writer_desk in
      λ i. get_or (stands i) 6 0 + cond (eqb (get_or (stands i) 0 0) 7) 1 0

  age_is : (stepped a r).age ≡ writer a 6 + cond (eqb (writer a 0) 7) 1 0 - number
  age_is =
      age_before a r o l e
      ∙ ap₂ (λ k j. k - j) published_is
      (ap (λ m. m (desk_write_number r)) (sym (after_memory o))
      ∙ ap (λ words. get_or words 4 0) ((words_stand b).desks r (still a r o l e)))

  room : writer a 0 ≡ 7 → writer a 6 + 1 ≤ 18446744073709551615
  room seven =
      let phase = ap (λ words. get_or words 0 0) (words_stand a).writer_desk in
      let ended = ap (λ words. get_or words 6 0) (words_stand a).writer_desk in
      let fewer = (whole_area a o.sound).writer.room (λ z. omega arith) in
      omega arith

  aged : Aged a r
  aged = go (ℕ_discrete (writer a 0) 7)
    where
      go : Dec (writer a 0 ≡ 7) → Aged a r
      go (yes seven) =
          let age : (stepped a r).age ≡ writer a 6 + 1 - number = age_is ∙ rw (eq-eqb (writer a 0) 7 seven) in
          record {
            in_phase_7 = λ s. less_is (writer a 6 + 1) number (stepped a r).age age;
            otherwise = λ d. absurd (d seven);
            sum_fits = room;
          }
      go (no d) =
          let age : (stepped a r).age ≡ writer a 6 + 0 - number = age_is ∙ rw (ne_eqb (writer a 0) 7 d) in
          record {
            in_phase_7 = λ s. absurd (d s);
            otherwise = λ s. less_is (writer a 6) number (stepped a r).age (omega (arith, age));
            sum_fits = room;
          }

pub ages : Ages
ages a r l e =
    let o = opened a (step r) (accepted a r e) in
    aged a r l o (sym (same_ended a r o) ∙ e)
