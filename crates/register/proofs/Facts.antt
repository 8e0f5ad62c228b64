-- The tests of document 01 as facts, both ways: what passes is what `Conditions` says.
--     known_is, range_is, area_is, undamaged_is, own_is    a test passes exactly if its facts hold
--     area_facts, whole_area, sound_area         the same one way, as it is mostly used
--     its_plan, every_call, number_of            the plan of a call, which every form has, and the number that it gives
--     unless_all                                 what holds of every refusal and of what is behind them
-- Assumes nothing.
use mathlib.Core.Path.{◌≡◌, refl, sym, subst}
use mathlib.Core.Logic.{◌↔◌}
use mathlib.Core.Bool.{true}
use mathlib.Core.List.{List, [], ◌∷◌}
use Prim.Native.Nat.{ℕ}
use native.Mathlib.Omega.{arith}
use lib.Dec.{T, eqb, eqb→eq, leb→le, le→leb, ltb→lt, lt→ltb}
use lib.ListN.{length, get_or}
use borrow.Author.Tests.{eq-eqb, eqb-true}
use Rattle.theory.specs.Table.{total}
use Rattle.register.specs.Shape.{Shape, known_form, slots_at, desks_at, writer_at, range_tests, in_range}
use Rattle.register.specs.Shape.{table}
use Rattle.register.specs.Area.{shape_of, area_tests, is_area, undamaged, memory, memory_tests}
use Rattle.theory.specs.Lists.{all, Each, none, also}
use Rattle.register.specs.Conditions.{KnownForm, InRange, word, AnArea, Undamaged, Whole}
use Rattle.register.specs.Calls.{own_tests, is_own}
use Rattle.register.specs.Numbers.{OwnToShow}
use Rattle.theory.proofs.Tests.{if_true, passed, true_passes, test_passes, all_pass}
use Rattle.register.specs.Steps.{Refusal, unless, Plan, refuse, accept, Move, read, write, step, plan}
use Rattle.register.specs.Steps.{has_call}
use Rattle.register.proofs.Whole.{whole_of, of_whole}

-- ---- test 1 as facts

pub known_is : (form : ℕ) → (known_form form ≡ true) ↔ KnownForm form
known_is form = (eqb-true form 1, eq-eqb form 1)

pub range_facts : (k : Shape) → T (in_range k) → InRange k
range_facts k t =
    let test = test_passes (range_tests k) t in
    record {
      some_readers = leb→le _ _ (test 0);
      few_readers = leb→le _ _ (test 1);
      some_words = leb→le _ _ (test 2);
      few_words = leb→le _ _ (test 3);
    }

pub whole_area : (a : List ℕ) → undamaged a ≡ true → Whole (shape_of a) (memory a)
unfolding undamaged
whole_area a e = whole_of (shape_of a) (memory a) (true_passes _ e)

pub sound_area : (a : List ℕ) (k : Shape) → shape_of a ≡ k → Whole k (memory a) → undamaged a ≡ true
unfolding undamaged
sound_area a k e w = passed _ (subst (λ j. T (all (memory_tests j (memory a)))) (sym e) (of_whole k (memory a) w))

-- ---- a plan

-- the plan of a call
abbrev pub its_plan : List ℕ → Move → Plan
its_plan a x = plan (shape_of a) (memory a) x

-- what holds of every refusal, and of what is behind them, holds of a list of refusals in front of it
pub unless_all {ℓ} : {A : Type 0} (P : A → Type ℓ) (refuses : ℕ → A) (l : List Refusal) (x : A)
    → ((i : ℕ) → P (refuses i)) → P x → P (unless refuses l x)
unless_all P refuses [] x each rest = rest
unless_all P refuses (r ∷ l) x each rest =
    if_true P r.test _ _ (λ e. unless_all P refuses l x each rest) (λ e. each r.number)

-- every known form has every call
pub every_call : (k : Shape) (x : Move) → has_call k x ≡ true
every_call k (read r) = refl
every_call k (write v) = refl
every_call k (step p) = refl

-- the number that a plan gives
abbrev pub number_of : Plan → ℕ
number_of (refuse k) = k
number_of (accept stores ends) = 0

-- ---- both ways

pub range_is : (k : Shape) → (in_range k ≡ true) ↔ InRange k
range_is k = (λ e. range_facts k (true_passes _ e), back)
  where
    back : InRange k → in_range k ≡ true
    back r =
        passed _
        (all_pass (range_tests k)
        (also (le→leb _ _ r.some_readers)
        (also (le→leb _ _ r.few_readers)
        (also (le→leb _ _ r.some_words) (also (le→leb _ _ r.few_words) none)))))

pub area_is : (a : List ℕ) → (is_area a ≡ true) ↔ AnArea a
unfolding is_area
area_is a =
    (λ e. there (test_passes (area_tests a) (true_passes _ e)), λ v. passed _ (all_pass (area_tests a) (back v)))
  where
    there : ((i : ℕ) → T (get_or (area_tests a) i true)) → AnArea a
    there test =
        let total_is : word a 3 ≡ total (table (shape_of a)) = eqb→eq _ _ (test 3) in
        let slots_are : word a 4 ≡ slots_at (shape_of a) = eqb→eq _ _ (test 4) in
        let desks_are : word a 5 ≡ desks_at (shape_of a) = eqb→eq _ _ (test 5) in
        let writer_is : word a 6 ≡ writer_at (shape_of a) = eqb→eq _ _ (test 6) in
        let length_is : length a ≡ total (table (shape_of a)) = eqb→eq _ _ (test 7) in
        record {
          eight = leb→le _ _ (test 0);
          form = (known_is (word a 0)).0 (passed _ (test 1));
          range = range_facts (shape_of a) (test 2);
          total = omega (arith, total_is);
          slots = omega (arith, slots_are);
          desks = omega (arith, desks_are);
          writer = omega (arith, writer_is);
          exact = omega (arith, length_is);
        }

    same : (i j : ℕ) → i ≡ j → T (eqb i j)
    same i j e = true_passes _ (eq-eqb i j e)

    back : AnArea a → Each T (area_tests a)
    back v =
        let total_is : word a 3 ≡ total (table (shape_of a)) = omega (arith, v.total) in
        let slots_are : word a 4 ≡ slots_at (shape_of a) = v.slots in
        let desks_are : word a 5 ≡ desks_at (shape_of a) = omega (arith, v.desks) in
        let writer_is : word a 6 ≡ writer_at (shape_of a) = omega (arith, v.writer) in
        let length_is : length a ≡ total (table (shape_of a)) = omega (arith, v.exact) in
        also (le→leb _ _ v.eight)
        (also (true_passes _ ((known_is (word a 0)).1 v.form))
        (also (true_passes _ ((range_is (shape_of a)).1 v.range))
        (also (same _ _ total_is)
        (also (same _ _ slots_are)
        (also (same _ _ desks_are) (also (same _ _ writer_is) (also (same _ _ length_is) none)))))))

-- what a layout needs of it, by the table
pub record AreaFacts (a : List ℕ) : Type 0 where
  pub range : InRange (shape_of a)
  pub exact : length a ≡ total (table (shape_of a))

pub area_facts : (a : List ℕ) → is_area a ≡ true → AreaFacts a
area_facts a e = let v = (area_is a).0 e in record { range = v.range; exact = omega (arith, v.exact) }

pub undamaged_is : (a : List ℕ) → (undamaged a ≡ true) ↔ Undamaged a
undamaged_is a = (whole_area a, sound_area a (shape_of a) refl)

-- showing: the area is undamaged, the reader exists, is idle and has finished
pub own_is : (a : List ℕ) (r : ℕ) → (is_own a r ≡ true) ↔ OwnToShow a r
unfolding is_own
own_is a r =
    (λ e. there (test_passes (own_tests a r) (true_passes _ e)), λ v. passed _ (all_pass (own_tests a r) (back v)))
  where
    there : ((i : ℕ) → T (get_or (own_tests a r) i true)) → OwnToShow a r
    there test =
        record {
          area = (area_is a).0 (passed _ (test 0));
          undamaged = (undamaged_is a).0 (passed _ (test 1));
          exists = ltb→lt _ _ (test 2);
          idle = eqb→eq _ _ (test 3);
          has_finished = eqb→eq _ _ (test 4);
        }

    back : OwnToShow a r → Each T (own_tests a r)
    back v =
        also (true_passes _ ((area_is a).1 v.area))
        (also (true_passes _ ((undamaged_is a).1 v.undamaged))
        (also (lt→ltb _ _ v.exists)
        (also (true_passes _ (eq-eqb _ _ v.idle)) (also (true_passes _ (eq-eqb _ _ v.has_finished)) none))))
