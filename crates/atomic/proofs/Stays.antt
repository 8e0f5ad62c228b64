-- An accepted move leaves an undamaged memory undamaged, wherever it came from.
--     reader_own, writer_own              what a move of a reader, or of the writer, says of what it may change
--     stays_whole                         the rest it leaves alone
-- Assumes nothing.
use mathlib.Core.Path.{◌≡◌, refl, sym, ◌∙◌}
use Prim.Native.Nat.{ℕ, suc, ◌+◌, ◌*◌, ◌≤◌, ◌<◌}
use native.Mathlib.Omega.{arith}
use borrow.Author.Tests.{ne_eqb}
use Rattle.theory.specs.Place.{Memory, apply}
use Rattle.register.specs.Shape.{Shape}
use Rattle.register.specs.Area.{current, index, counter, size, phase, last, pos, len, finished, writer_phase}
use Rattle.register.specs.Area.{last_slot, in_hand, writer_pos, writer_len, old_word, writes_ended}
use Rattle.register.specs.Steps.{unbinds}
use Rattle.theory.specs.History.{Deed, Event}
use Rattle.theory.proofs.Tests.{eqb_same, at_each}
use Rattle.atomic.proofs.Moves
use Rattle.atomic.proofs.Moves.{ReaderDoes, WriterDoes, Does, by_reader, by_writer, to_phase}
use Rattle.atomic.proofs.Frames.{reader_leaves, Unfilled, WriterLeaves, writer_leaves}
use Rattle.register.specs.Conditions.{WordWhole, DeskWhole, WriterWhole, Slot, Desk, Writer, Whole}
use Rattle.atomic.proofs.WriterDesk.{further, scanning_on, beginning, ending}

module _ (shape : Shape) (big : shape.n < 4294967296) {m : Memory} (v : Whole shape m) where
  abbrev n : ℕ
  n = shape.n

  abbrev Slots : Memory → Type 0
  Slots m' = (s : ℕ) → s < n + 2 → Slot shape m' s

  -- ---- a reader: its desk once it is in phase k, and what it may change

  module _ {r : ℕ} (l : r < n) where
    d : Desk shape m r
    d = v.desk r l

    -- it copies nothing
    turned : (k s : ℕ) → k ≤ 4 → s < n + 2 → DeskWhole shape k s (m (pos r)) (m (len r)) (m (finished r))
    turned k s hi slot =
        record {
          phases = omega arith;
          slot = slot;
          part = d.part;
          words = d.words;
          flag = d.flag;
          copying = λ e. absurd (omega arith);
        }

    -- step 4
    taking : (k flag : ℕ) → flag ≤ 1 → k ≤ 5 → (k ≡ 5 → 0 < m (size (m (last r))))
        → DeskWhole shape k (m (last r)) 0 (m (size (m (last r)))) flag
    taking k flag fl hi more =
        let words = (v.slot (m (last r)) d.slot).words in
        record { phases = hi; slot = d.slot; part = omega arith; words = words; flag = fl; copying = more }

    -- step 5
    copying : (k flag : ℕ) → m (phase r) ≡ 5 → flag ≤ 1 → k ≤ 5
        → (k ≡ 5 → suc (m (pos r)) < m (len r))
        → DeskWhole shape k (m (last r)) (suc (m (pos r))) (m (len r)) flag
    copying k flag e fl hi more =
        record { phases = hi; slot = d.slot; part = d.copying e; words = d.words; flag = fl; copying = more }

    reader_own : {d : Deed} {m' : Memory} → ReaderDoes shape m r d m'
        → WordWhole shape (m' current) × Slots m' × Desk shape m' r
    reader_own (Moves.read_starts e) =
        (v.word, v.slot, rw (eqb_same r) (turned 1 (m (last r)) (omega arith) d.slot))
    reader_own (Moves.finds_same e x) =
        (v.word, v.slot, rw (eqb_same r) (turned 4 (m (last r)) (omega arith) d.slot))
    reader_own (Moves.finds_other e x) =
        (v.word, v.slot, rw (eqb_same r) (turned 2 (m (last r)) (omega arith) d.slot))
    reader_own (Moves.leaves_slot e x) = (
      v.word,
      at_each (Slot shape (apply m (unbinds m r))) (m (last r))
          (rw (eqb_same (m (last r)))
          (let s = v.slot (m (last r)) d.slot in
          record { start = s.start; end = x; words = s.words }))
          (λ s h other. rw (ne_eqb s (m (last r)) other) (v.slot s h)),
      rw (eqb_same r) (turned 3 (m (last r)) (omega arith) d.slot),
    )
    reader_own (Moves.joins_slot e x) =
        let same : index (suc (m current)) ≡ index (m current) = omega arith in
        let more : counter (suc (m current)) ≡ suc (counter (m current)) = omega arith in (
          record { slot = rw same v.word.slot; count = rw more x },
          v.slot,
          rw (eqb_same r) (turned 4 (index (suc (m current))) (omega arith) (rw same v.word.slot)),
        )
    reader_own (Moves.takes_none e x) =
        (v.word, v.slot, rw (eqb_same r) (taking 0 1 (omega arith) (omega arith) (λ y. absurd (omega arith))))
    reader_own (Moves.takes_size e x) =
        (v.word, v.slot, rw (eqb_same r) (taking 5 (m (finished r)) d.flag (omega arith) (λ y. omega arith)))
    reader_own (Moves.copies_word e x) =
        let more : m (phase r) ≡ 5 → suc (m (pos r)) < m (len r) = λ y. omega (arith, d.copying e) in
        (v.word, v.slot, rw (eqb_same r) (copying (m (phase r)) (m (finished r)) e d.flag d.phases more))
    reader_own (Moves.copies_last e x) =
        (v.word, v.slot, rw (eqb_same r) (copying 0 1 e (omega arith) (omega arith) (λ y. absurd (omega arith))))

  -- ---- the writer: slot t, which it works on, and what else it may change

  one_slot : {m' : Memory} → WriterLeaves m m' → (t : ℕ)
      → (2 ≤ m writer_phase → m writer_phase ≤ 5 → t ≡ m in_hand)
      → (m writer_phase ≡ 7 → t ≡ index (m old_word)) → Slot shape m' t → Slots m'
  one_slot {m'} f t hand old own =
      at_each (Slot shape m') t own
      (λ s h d.
      let away : Unfilled m s = λ lo hi e. d (e ∙ sym (hand lo hi)) in
      rw (f.start s away (λ z e. d (e ∙ sym (old z))), f.end s away, (f.held s away).length) (v.slot s h))

  abbrev w : Writer shape m
  w = v.writer

  -- the writer has pos words in and goes on to phase k
  on_to : (k pos : ℕ) → 1 ≤ m writer_phase → 2 ≤ k → k ≤ 7 → pos ≤ m writer_len
      → (k ≡ 2 → pos < m writer_len)
      → WriterWhole shape k (m last_slot) (m in_hand) pos (m writer_len) (m old_word) (m writes_ended)
  on_to k pos busy lo hi part more = further w k pos (m old_word) (λ z. omega arith) lo hi part more w.before

  -- it has all in, and goes on to phase k
  all_in : (k : ℕ) → 1 ≤ m writer_phase → 3 ≤ k → k ≤ 7 → Writer shape (apply m (to_phase k))
  all_in k busy lo hi = on_to k (m writer_pos) busy (omega arith) hi w.part (λ e. absurd (omega arith))

  writer_own : {d : Deed} {m' : Memory} → WriterDoes shape m d m' → WriterLeaves m m'
      → WordWhole shape (m' current) × Slots m' × Writer shape m'
  writer_own (Moves.write_starts u l e more) f = (v.word, v.slot, beginning w _ l more)
  writer_own (Moves.picks_empty e d x y) f = (v.word, v.slot, all_in 3 (omega arith) (omega arith) (omega arith))
  writer_own (Moves.picks_slot e d x y) f =
      let more : m writer_pos < m writer_len = omega (arith, w.unmoved e) in
      (v.word, v.slot, on_to 2 _ (omega arith) (omega arith) (omega arith) w.part (λ z. more))
  writer_own (Moves.passes_slot e d x) f = (v.word, v.slot, scanning_on w _ e (omega (arith, w.hand_one)))
  writer_own (Moves.fills_word e x) f =
      let more : suc (m writer_pos) < m writer_len = omega (arith, w.copying e) in
      (v.word, v.slot, on_to 2 _ (omega arith) (omega arith) (omega arith) (w.copying e) (λ z. more))
  writer_own (Moves.fills_last e x) f =
      let full : suc (m writer_pos) ≤ m writer_len = w.copying e in
      (v.word, v.slot, on_to 3 _ (omega arith) (omega arith) (omega arith) full (λ z. absurd (omega arith)))
  writer_own (Moves.sets_size e) f =
      let s = v.slot (m in_hand) w.hand_one in (
        v.word,
        one_slot f (m in_hand) (λ lo hi. refl) (λ z. absurd (omega arith))
            (rw (eqb_same (m in_hand)) (record { start = s.start; end = s.end; words = w.words })),
        all_in 4 (omega arith) (omega arith) (omega arith),
      )
  writer_own (Moves.clears_first e) f =
      let s = v.slot (m in_hand) w.hand_one in (
        v.word,
        one_slot f (m in_hand) (λ lo hi. refl) (λ z. absurd (omega arith))
            (rw (eqb_same (m in_hand)) (record { start = omega arith; end = s.end; words = s.words })),
        all_in 5 (omega arith) (omega arith) (omega arith),
      )
  writer_own (Moves.clears_second e) f =
      let s = v.slot (m in_hand) w.hand_one in (
        v.word,
        one_slot f (m in_hand) (λ lo hi. refl) (λ z. absurd (omega arith))
            (rw (eqb_same (m in_hand)) (record { start = s.start; end = omega arith; words = s.words })),
        all_in 6 (omega arith) (omega arith) (omega arith),
      )
  writer_own (Moves.exchanges e) f =
      let i : index (m in_hand * 4294967296) ≡ m in_hand = omega arith in
      let k : counter (m in_hand * 4294967296) ≡ 0 = omega arith in (
        record { slot = rw i w.hand_one; count = rw k (omega arith) },
        v.slot,
        further w 7 (m writer_pos) (m current) (λ z. omega arith) (omega arith) (omega arith)
            w.part (λ z. absurd (omega arith)) v.word,
      )
  writer_own (Moves.write_ends e) f =
      let old = index (m old_word) in
      let s = v.slot old w.before.slot in (
        v.word,
        one_slot f old (λ lo hi. absurd (omega arith)) (λ z. refl)
            (rw (eqb_same old) (record { start = w.before.count; end = s.end; words = s.words })),
        ending w,
      )

  -- every accepted move
  pub stays_whole : {m' : Memory} {e : Event} → Does shape m e m' → Whole shape m'
  stays_whole {m'} (by_reader {r = r} l x) =
      let (word, slot, own) = reader_own l x in
      let f = reader_leaves x in
      record {
        word = word;
        slot = slot;
        desk = at_each (Desk shape m') r own
            (λ q h d.
            rw (f.desk 0 q 0 d, f.desk 1 q 0 d, f.desk 2 q 0 d, f.desk 3 q 0 d, f.desk 5 q 0 d) (v.desk q h));
        writer =
            rw (f.writer 0 0, f.writer 1 0, f.writer 2 0, f.writer 3 0, f.writer 4 0, f.writer 5 0, f.writer 6 0)
            w;
      }
  stays_whole (by_writer x) =
      let f = writer_leaves x in
      let (word, slot, own) = writer_own x f in
      record {
        word = word;
        slot = slot;
        desk = λ q h.
            rw (f.desk 0 q 0, f.desk 1 q 0, f.desk 2 q 0, f.desk 3 q 0, f.desk 5 q 0) (v.desk q h);
        writer = own;
      }
