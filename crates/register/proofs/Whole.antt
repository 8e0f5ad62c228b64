-- Test 2 as facts: a memory passes it exactly if each slot, desk and word is whole.
--     word_of                             a word that passes
--     whole_of, of_whole                  a memory that passes is whole, and the other way
-- Assumes nothing.
use mathlib.Core.Path.{◌≡◌, sym, subst, ◌∙◌}
use mathlib.Core.Logic.{◌≢◌}
use mathlib.Core.Bool.{false}
use Prim.Native.Nat.{ℕ, ◌+◌}
use native.Mathlib.Omega.{arith}
use lib.Dec.{T, eqb, leb, ltb, eqb→eq, leb→le, le→leb, ltb→lt, lt→ltb}
use borrow.Author.Tests.{eq-eqb, ne_eqb}
use Rattle.theory.specs.Place.{Memory}
use Rattle.register.specs.Area.{current, index, counter, phase, writer_phase, writer_pos, old_word}
use Rattle.register.specs.Area.{word_sound, slot_sound, desk_sound, writer_sound, slot_tests, desk_tests}
use Rattle.register.specs.Area.{writer_tests, memory_tests}
use Rattle.register.specs.Shape.{Shape, limit}
use Rattle.theory.specs.Lists.{all, none, also}
use Rattle.register.specs.Conditions.{WordWhole, Slot, Desk, Writer, Whole}
use Rattle.theory.proofs.Tests.{both, joined, test_passes, all_pass, where_passed, unless_passed, where_failed}
use Rattle.theory.proofs.Tests.{unless_failed, each_of, of_each, true_passes}

-- ---- from the test

pub word_of : (k : Shape) (w : ℕ) → T (word_sound k w) → WordWhole k w
word_of k w t =
    let (a, b) = both (ltb (index w) (k.n + 2)) _ t in record { slot = ltb→lt _ _ a; count = leb→le _ _ b }

slot_facts : (k : Shape) (m : Memory) (s : ℕ) → T (all (slot_tests k m s)) → Slot k m s
slot_facts k m s t =
    let test = test_passes (slot_tests k m s) t in
    record { start = leb→le _ _ (test 0); end = leb→le _ _ (test 1); words = leb→le _ _ (test 2) }

desk_facts : (k : Shape) (m : Memory) (r : ℕ) → T (all (desk_tests k m r)) → Desk k m r
desk_facts k m r t =
    let test = test_passes (desk_tests k m r) t in
    record {
      phases = leb→le _ _ (test 0);
      slot = ltb→lt _ _ (test 1);
      part = leb→le _ _ (test 2);
      words = leb→le _ _ (test 3);
      flag = leb→le _ _ (test 4);
      copying = λ y. ltb→lt _ _ (where_passed _ _ (test 5) (eq-eqb _ _ y));
    }

writer_facts : (k : Shape) (m : Memory) → T (all (writer_tests k m)) → Writer k m
writer_facts k m t =
    let test = test_passes (writer_tests k m) t in
    record {
      phases = leb→le _ _ (test 0);
      last_one = ltb→lt _ _ (test 1);
      hand_one = ltb→lt _ _ (test 2);
      part = leb→le _ _ (test 3);
      words = leb→le _ _ (test 4);
      before = word_of k (m old_word) (test 5);
      copying = λ y. ltb→lt _ _ (where_passed _ _ (test 6) (eq-eqb _ _ y));
      unmoved = λ y. eqb→eq _ _ (where_passed _ _ (test 7) (eq-eqb _ _ y));
      room = λ y. ltb→lt _ _ (where_failed _ _ (test 8) (ne_eqb _ _ y));
    }

pub whole_of : (k : Shape) (m : Memory) → T (all (memory_tests k m)) → Whole k m
unfolding slot_sound desk_sound writer_sound
whole_of k m t =
    let test = test_passes (memory_tests k m) t in
    record {
      word = word_of k (m current) (test 0);
      slot = λ s l. slot_facts k m s (each_of (k.n + 2) 0 (slot_sound k m) (test 1) s (omega arith) (omega arith));
      desk = λ r l. desk_facts k m r (each_of k.n 0 (desk_sound k m) (test 2) r (omega arith) (omega arith));
      writer = writer_facts k m (test 3);
    }

-- ---- to the test

of_word : (k : Shape) (w : ℕ) → WordWhole k w → T (word_sound k w)
of_word k w v =
    joined (ltb (index w) (k.n + 2)) (leb (counter w) (limit k)) (lt→ltb _ _ v.slot) (le→leb _ _ v.count)

of_slot : (k : Shape) (m : Memory) (s : ℕ) → Slot k m s → T (slot_sound k m s)
unfolding slot_sound
of_slot k m s v =
    all_pass (slot_tests k m s)
    (also (le→leb _ _ v.start) (also (le→leb _ _ v.end) (also (le→leb _ _ v.words) none)))

of_desk : (k : Shape) (m : Memory) (r : ℕ) → Desk k m r → T (desk_sound k m r)
unfolding desk_sound
of_desk k m r v =
    all_pass (desk_tests k m r)
    (also (le→leb _ _ v.phases)
    (also (lt→ltb _ _ v.slot)
    (also (le→leb _ _ v.part)
    (also (le→leb _ _ v.words)
    (also (le→leb _ _ v.flag)
    (also (unless_passed (eqb (m (phase r)) 5) _
    (λ e. lt→ltb _ _ (v.copying (eqb→eq _ _ (true_passes _ e))))) none))))))

of_writer : (k : Shape) (m : Memory) → Writer k m → T (writer_sound k m)
unfolding writer_sound
of_writer k m v =
    all_pass (writer_tests k m)
    (also (le→leb _ _ v.phases)
    (also (lt→ltb _ _ v.last_one)
    (also (lt→ltb _ _ v.hand_one)
    (also (le→leb _ _ v.part)
    (also (le→leb _ _ v.words)
    (also (of_word k (m old_word) v.before)
    (also (unless_passed (eqb (m writer_phase) 2) _ (λ e. lt→ltb _ _ (v.copying (eqb→eq _ _ (true_passes _ e)))))
    (also (unless_passed (eqb (m writer_phase) 1) _ (λ e. still (v.unmoved (eqb→eq _ _ (true_passes _ e)))))
    (also (unless_failed (eqb (m writer_phase) 0) _ (λ e. lt→ltb _ _ (v.room (busy e)))) none)))))))))
  where
    still : m writer_pos ≡ 0 → T (eqb (m writer_pos) 0)
    still e = true_passes _ (eq-eqb _ _ e)

    busy : eqb (m writer_phase) 0 ≡ false → m writer_phase ≢ 0
    busy e z = subst T (sym (eq-eqb _ _ z) ∙ e) tt

pub of_whole : (k : Shape) (m : Memory) → Whole k m → T (all (memory_tests k m))
of_whole k m v =
    all_pass (memory_tests k m)
    (also (of_word k (m current) v.word)
    (also (of_each (k.n + 2) 0 (slot_sound k m) (λ s lo hi. of_slot k m s (v.slot s (omega arith))))
    (also (of_each k.n 0 (desk_sound k m) (λ r lo hi. of_desk k m r (v.desk r (omega arith))))
    (also (of_writer k m v.writer) none))))
