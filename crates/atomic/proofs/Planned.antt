-- An accepted plan is a move of the relation, it stores to places of the area alone, and no refusal has number 0.
--     seen_got, seen_writer, seen_reader, seen_step, seen   what is seen of a move, from the memories before and after
--     Outcome                             what a plan comes to: a move of the relation, or a refusal
--     plan_does                           every plan on an undamaged memory
-- Assumes nothing.
use mathlib.Core.Path.{◌≡◌, refl, sym, ap, subst, ◌∙◌, fun_ext}
use mathlib.Core.Logic.{◌≢◌}
use mathlib.Core.Bool.{Bool, true, false, cond}
use mathlib.Core.List.{◌++◌}
use Prim.Native.Nat.{ℕ, suc, ◌<◌}
use native.Mathlib.Decide.{ℕ_discrete}
use native.Mathlib.Omega.{arith}
use lib.Dec.{T, eqb, ltb, ltb→lt}
use lib.ListN.{length}
use borrow.Author.Tests.{ne_eqb, lt-ltb, le-ltb}
use Rattle.theory.specs.Place.{Record, Place, Memory, apply, copied}
use Rattle.register.specs.Area.{current, index, counter, r_end, size, most_writes, phase, last, pos, len}
use Rattle.register.specs.Area.{desk_write_number, writer_phase, in_hand, writer_pos, writer_len, old_word}
use Rattle.register.specs.Area.{writes_ended, write_record}
use Rattle.register.specs.Shape.{Shape, limit}
use Rattle.register.specs.Steps.{Plan, refuse, accept, write_begins, reader_step, writer_step, begins_write, free}
use Rattle.register.specs.Steps.{sets_phase, compares, sets_out, Move, read, write, step, mover, plan}
use Rattle.register.specs.Steps
use Rattle.theory.specs.History.{Got, Deed, read_began, write_began, went_on, looked, published, read_ended}
use Rattle.theory.specs.History.{write_ended}
use Rattle.theory.specs.Lists.{none, also}
use Rattle.theory.proofs.Tests.{if_true, if_equal, if_less, if_at_most, end, next, at_number, eqb_same, same_either}
use Rattle.theory.proofs.Tests.{differ_and_same, not_differ_and_same}
use Rattle.theory.proofs.Places.{place_equal, apply_append, copied_elsewhere, copied_column}
use Rattle.register.proofs.Body.{InBody, AllInBody, body_append, body_current, body_slot, body_contents, body_desk}
use Rattle.register.proofs.Body.{body_read_record, body_writer, body_write_record, body_copied}
use Rattle.atomic.proofs.Moves
use Rattle.atomic.proofs.Moves.{ReaderDoes, WriterDoes, Does, by_reader, by_writer, by, desk_with, to_phase}
use Rattle.atomic.proofs.Moves.{fills_to, got_now, desk_record}
use Rattle.register.specs.Conditions.{Whole}

-- ---- what is seen of a move, from the memories before and after it

abbrev pub seen_got : Memory → ℕ → Got
seen_got m r = got_now m (m (desk_write_number r)) (desk_record m r)

abbrev pub seen_writer : ℕ → Bool → Deed
seen_writer k ends = cond (eqb k 6) (published ends) (cond ends write_ended (cond (eqb k 1) looked (went_on k)))

abbrev pub seen_reader : Memory → ℕ → Bool → Memory → Deed
seen_reader m r ends m' = cond ends (read_ended (seen_got m' r)) (went_on (m (phase r)))

-- a step of process p, which is a reader or the writer
abbrev pub seen_step : Bool → Memory → ℕ → Bool → Memory → Deed
seen_step reader m p ends m' = cond reader (seen_reader m p ends m') (seen_writer (m writer_phase) ends)

abbrev pub seen : ℕ → Memory → Move → Bool → Memory → Deed
seen n m (read r) ends m' = read_began
seen n m (write v) ends m' = write_began v
seen n m (step p) ends m' = seen_step (ltb p n) m p ends m'

-- ---- a begin of a write as the relation has it

begun : (m : Memory) (v : Record) → apply m (begins_write v) ≡ apply (desk_with m v) (sets_out v)
begun m v =
    apply_append m (copied write_record 0 v) (sets_out v) ∙ ap (λ k. apply k (sets_out v)) (fun_ext copied_in)
  where
    apart : (i j : ℕ) → write_record i ≡ write_record j → i ≡ j
    apart i j e = ap (λ p. p.column) e

    any : (q : Place) (b : Bool) → cond b (m q) (m q) ≡ m q
    any q b = same_either b (m q)

    other : (q : Place) → ((j : ℕ) → q ≢ write_record j) → apply m (copied write_record 0 v) q ≡ m q
    other q d = copied_elsewhere write_record apart m v 0 q d

    at : (q : Place) → Dec (q.part ≡ 3) → Dec (q.field ≡ 7) → Dec (q.row ≡ 0)
        → apply m (copied write_record 0 v) q ≡ desk_with m v q
    at q (no x) b c = rw (ne_eqb q.part 3 x) (other q (λ j e. x (ap (λ p. p.part) e)))
    at q (yes x) (no y) c =
        rw (ne_eqb q.field 7 y) (rw (any q (eqb q.part 3)) (other q (λ j e. y (ap (λ p. p.field) e))))
    at q (yes x) (yes y) (no z) =
        rw (ne_eqb q.row 0 z)
        (rw (any q (eqb q.field 7)) (rw (any q (eqb q.part 3)) (other q (λ j e. z (ap (λ p. p.row) e)))))
    at q (yes x) (yes y) (yes z) =
        rw (place_equal q (write_record q.column) x y z refl) (copied_column write_record apart m v q.column)

    copied_in : (q : Place) → apply m (copied write_record 0 v) q ≡ desk_with m v q
    copied_in q = at q (ℕ_discrete q.part 3) (ℕ_discrete q.field 7) (ℕ_discrete q.row 0)

-- ---- each plan

module _ (shape : Shape) (m : Memory) where
  abbrev n : ℕ
  n = shape.n

  -- what a plan comes to, by process p, if `what` is seen of it
  abbrev pub Outcome : ℕ → (Bool → Memory → Deed) → Plan → Type 0
  Outcome p what (refuse k) = k ≢ 0
  Outcome p what (accept stores ends) =
      Does shape m (by p (what ends (apply m stores))) (apply m stores) × AllInBody shape stores

  -- seen by another name
  renamed : {p : ℕ} {d d' : Deed} {m' : Memory} → d ≡ d' → Does shape m (by p d) m'
      → Does shape m (by p d') m'
  renamed {p = p} {m' = m'} e x = subst (λ d. Does shape m (by p d) m') e x

  module _ (v : Whole shape m) where
    module _ (r : ℕ) (l : r < n) where
      desk : (f : ℕ) → T (ltb f 6) → InBody shape (record { part = 2; field = f; row = r; column = 0 })
      desk f t = body_desk shape f r (ltb→lt f 6 t) l

      abbrev R : Plan → Type 0
      R = Outcome r (seen_reader m r)

      -- a step that ends nothing
      on : {m' : Memory} (k : ℕ) → m (phase r) ≡ k → ReaderDoes shape m r (went_on k) m'
          → Does shape m (by r (went_on (m (phase r)))) m'
      on k e x = renamed (ap went_on (sym e)) (by_reader l x)

      comparing : m (phase r) ≡ 1 → R (accept (compares m r) false)
      comparing e =
          if_equal (λ k. R (accept (sets_phase r k) false)) (index (m current)) (m (last r)) 4 2
          (λ x. (on 1 e (Moves.finds_same e x), also (desk 0 tt) none))
          (λ x. (on 1 e (Moves.finds_other e x), also (desk 0 tt) none))

      unbinds : m (phase r) ≡ 2
          → R (cond (ltb (m (r_end (m (last r)))) (limit shape)) (accept (Steps.unbinds m r) false) (refuse 2))
      unbinds e =
          if_less R (m (r_end (m (last r)))) (limit shape) (accept (Steps.unbinds m r) false) (refuse 2)
          (λ x. (
            on 2 e (Moves.leaves_slot e x),
            also (body_slot shape 1 (m (last r)) (omega arith) (v.desk r l).slot) (also (desk 0 tt) none),
          ))
          (λ x y. omega arith)

      binds : m (phase r) ≡ 3
          → R (cond (ltb (counter (m current)) (limit shape)) (accept (Steps.binds m r) false) (refuse 2))
      binds e =
          if_less R (counter (m current)) (limit shape) (accept (Steps.binds m r) false) (refuse 2)
          (λ x. (
            on 3 e (Moves.joins_slot e x),
            also (body_current shape) (also (desk 1 tt) (also (desk 0 tt) none)),
          ))
          (λ x y. omega arith)

      taking : m (phase r) ≡ 4
          → R (cond (eqb (m (size (m (last r)))) 0) (accept (Steps.takes m r ++ Steps.finishes r) true)
          (accept (Steps.takes m r ++ sets_phase r 5) false))
      taking e =
          if_equal R (m (size (m (last r)))) 0 (accept (Steps.takes m r ++ Steps.finishes r) true)
          (accept (Steps.takes m r ++ sets_phase r 5) false)
          (λ x. (
            renamed (rw (eqb_same r, x)) (by_reader l (Moves.takes_none e x)),
            also (desk 3 tt) (also (desk 4 tt) (also (desk 2 tt) (also (desk 5 tt) (also (desk 0 tt) none)))),
          ))
          (λ x. (
            on 4 e (Moves.takes_size e x),
            also (desk 3 tt) (also (desk 4 tt) (also (desk 2 tt) (also (desk 0 tt) none))),
          ))

      copies : m (phase r) ≡ 5
          → R (cond (eqb (suc (m (pos r))) (m (len r))) (accept (Steps.copies m r ++ Steps.finishes r) true)
          (accept (Steps.copies m r) false))
      copies e =
          let word =
          body_read_record shape r (m (pos r)) l (omega (arith, (v.desk r l).copying e, (v.desk r l).words)) in
          if_equal R (suc (m (pos r))) (m (len r)) (accept (Steps.copies m r ++ Steps.finishes r) true)
          (accept (Steps.copies m r) false)
          (λ x. (
            by_reader l (Moves.copies_last e x),
            also word (also (desk 2 tt) (also (desk 5 tt) (also (desk 0 tt) none))),
          ))
          (λ x. (on 5 e (Moves.copies_word e x), also word (also (desk 2 tt) none)))

      reader_planned : R (reader_step shape m r)
      unfolding reader_step
      reader_planned =
          at_number R (m (phase r)) 0 (m (phase r)) _ (refuse 2) (omega arith)
          (next (λ e y. omega arith) (next comparing (next unbinds (next binds (next taking (next copies end))))))
          (λ h y. omega arith)

    -- ---- the writer

    writer : (f : ℕ) → T (ltb f 7) → InBody shape (record { part = 3; field = f; row = 0; column = 0 })
    writer f t = body_writer shape f (ltb→lt f 7 t)

    hand : (f : ℕ) → T (ltb f 4) → InBody shape (record { part = 1; field = f; row = m in_hand; column = 0 })
    hand f t = body_slot shape f (m in_hand) (ltb→lt f 4 t) v.writer.hand_one

    abbrev W : Plan → Type 0
    W = Outcome n (λ ends m'. seen_writer (m writer_phase) ends)

    -- a step out of phase k
    out_of : {m' : Memory} (ends : Bool) (k : ℕ) → m writer_phase ≡ k
        → WriterDoes shape m (seen_writer k ends) m'
        → Does shape m (by n (seen_writer (m writer_phase) ends)) m'
    out_of ends k e x = renamed (ap (λ j. seen_writer j ends) (sym e)) (by_writer x)

    looking : m writer_phase ≡ 1
        → W (cond (free m) (accept (Steps.picks m) false)
        (cond (eqb (m in_hand) (suc n)) (refuse 8) (accept (Steps.passes m) false)))
    looking e =
        if_true W (free m) (accept (Steps.picks m) false)
        (cond (eqb (m in_hand) (suc n)) (refuse 8) (accept (Steps.passes m) false))
        (λ f.
        let (d, x) = differ_and_same _ _ _ _ f in
        if_equal (λ k. W (accept (to_phase k) false)) (m writer_len) 0 3 2
        (λ y. (out_of false 1 e (Moves.picks_empty e d x y), also (writer 0 tt) none))
        (λ y. (out_of false 1 e (Moves.picks_slot e d x y), also (writer 0 tt) none)))
        (λ f.
        if_equal W (m in_hand) (suc n) (refuse 8) (accept (Steps.passes m) false) (λ x y. omega arith)
        (λ x. (out_of false 1 e (Moves.passes_slot e (not_differ_and_same _ _ _ _ f) x), also (writer 2 tt) none)))

    fills : m writer_phase ≡ 2 → W (accept (Steps.fills m) false)
    fills e =
        let word = body_contents shape (m in_hand) (m writer_pos) v.writer.hand_one
        (omega (arith, v.writer.copying e, v.writer.words)) in
        if_equal (λ k. W (accept (fills_to m k) false)) (suc (m writer_pos)) (m writer_len) 3 2
        (λ x. (out_of false 2 e (Moves.fills_last e x), also word (also (writer 3 tt) (also (writer 0 tt) none))))
        (λ x. (out_of false 2 e (Moves.fills_word e x), also word (also (writer 3 tt) (also (writer 0 tt) none))))

    ends_write : m writer_phase ≡ 7 → W (accept (Steps.freezes m) true)
    ends_write e = (
      out_of true 7 e (Moves.write_ends e),
      also (body_slot shape 0 (index (m old_word)) (omega arith) v.writer.before.slot)
          (also (writer 1 tt) (also (writer 6 tt) (also (writer 0 tt) none))),
    )

    writer_planned : W (writer_step shape m)
    unfolding writer_step
    writer_planned =
        at_number W (m writer_phase) 0 (m writer_phase) _ (refuse 2) (omega arith)
        (next (λ e y. omega arith)
        (next looking
        (next fills
        (next
        (λ e. (
          out_of false 3 e (Moves.sets_size e),
          also (hand 3 tt) (also (hand 2 tt) (also (writer 0 tt) none)),
        ))
        (next (λ e. (out_of false 4 e (Moves.clears_first e), also (hand 0 tt) (also (writer 0 tt) none)))
        (next (λ e. (out_of false 5 e (Moves.clears_second e), also (hand 1 tt) (also (writer 0 tt) none)))
        (next
        (λ e. (
          out_of false 6 e (Moves.exchanges e),
          also (writer 5 tt) (also (body_current shape) (also (writer 0 tt) none)),
        ))
        (next ends_write end))))))))
        (λ h y. omega arith)

    begin_planned : (u : Record) → Outcome n (λ ends m'. write_began u) (write_begins shape m u)
    begin_planned u =
        if_at_most P (length u) shape.c _ (refuse 4)
        (λ l.
        if_equal P (m writer_phase) 0 _ (refuse 5)
        (λ e.
        if_less P (m writes_ended) most_writes (accept (begins_write u) false) (refuse 7)
        (λ x. (
          subst (Does shape m (by n (write_began u))) (sym (begun m u))
              (by_writer (Moves.write_starts u l e x)),
          body_append shape (copied write_record 0 u) (sets_out u)
              (body_copied shape write_record (body_write_record shape) u 0 (omega arith))
              (also (writer 4 tt) (also (writer 2 tt) (also (writer 3 tt) (also (writer 0 tt) none)))),
        ))
        (λ x y. omega arith))
        (λ d y. omega arith))
        (λ l y. omega arith)
      where
        P : Plan → Type 0
        P = Outcome n (λ ends m'. write_began u)

    -- every plan on an undamaged memory
    pub plan_does : (x : Move) → Outcome (mover shape x) (seen n m x) (plan shape m x)
    plan_does (read r) =
        if_less (Outcome r (seen n m (read r))) r n _ (refuse 3)
        (λ l.
        if_equal (Outcome r (seen n m (read r))) (m (phase r)) 0 (accept (sets_phase r 1) false) (refuse 5)
        (λ e. (by_reader l (Moves.read_starts e), also (desk r l 0 tt) none)) (λ d y. omega arith))
        (λ l y. omega arith)
    plan_does (write u) = begin_planned u
    plan_does (step p) =
        if_less (Outcome p (seen n m (step p))) p n (reader_step shape m p) _
        (λ l. subst (λ b. Outcome p (seen_step b m p) (reader_step shape m p)) (sym (lt-ltb p n l))
        (reader_planned p l))
        (λ l.
        if_equal (Outcome p (seen n m (step p))) p n (writer_step shape m) (refuse 3)
        (λ e. subst (λ q. Outcome q (seen n m (step q)) (writer_step shape m)) (sym e) writer_steps)
        (λ d y. omega arith))
      where
        writer_steps : Outcome n (seen n m (step n)) (writer_step shape m)
        writer_steps =
            subst (λ b. Outcome n (seen_step b m n) (writer_step shape m))
            (sym (le-ltb n n (omega arith))) writer_planned
