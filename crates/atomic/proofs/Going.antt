-- On an undamaged memory that is guarded nobody busy is refused: what each plan's number is. Assumes nothing.
use mathlib.Core.Path.{◌≡◌, refl}
use mathlib.Core.Logic.{◌≢◌}
use mathlib.Core.Bool.{Bool, true, false, cond}
use Prim.Native.Nat.{ℕ, suc, ◌<◌}
use native.Mathlib.Omega.{arith}
use lib.Dec.{eqb, leb, ltb}
use lib.ListN.{length}
use borrow.Author.Tests.{eq-eqb, ne_eqb, lt-ltb, le-ltb}
use Rattle.register.proofs.Facts.{number_of}
use Rattle.theory.specs.Place.{Record, Memory}
use Rattle.register.specs.Area.{current, counter, r_end, size, most_writes, phase, last, pos, len, writer_phase}
use Rattle.register.specs.Area.{in_hand, writes_ended}
use Rattle.register.specs.Shape.{Shape, limit}
use Rattle.register.specs.Steps
use Rattle.register.specs.Steps.{Plan, refuse, accept, read_begins, write_begins, reader_step, writer_step, free}
use Rattle.theory.proofs.Tests.{if_true, if_equal, if_less, end, next, at_number}
use Rattle.atomic.proofs.Guarded.{Guarded}
use Rattle.register.specs.Conditions.{Whole}

module _ (shape : Shape) (m : Memory) where
  abbrev n : ℕ
  n = shape.n

  pub read_begin_number : (r : ℕ)
      → number_of (read_begins shape m r) ≡ cond (ltb r n) (cond (eqb (m (phase r)) 0) 0 5) 3
  read_begin_number r = go (ltb r n) (eqb (m (phase r)) 0)
    where
      go : (a b : Bool) → number_of (cond a (cond b (accept (Steps.sets_phase r 1) false) (refuse 5)) (refuse 3))
          ≡ cond a (cond b 0 5) 3
      go true true = refl
      go true false = refl
      go false b = refl

  pub write_begin_number : (v : Record) → number_of (write_begins shape m v)
      ≡ cond (leb (length v) shape.c)
      (cond (eqb (m writer_phase) 0) (cond (ltb (m writes_ended) most_writes) 0 7) 5) 4
  write_begin_number v = go (leb (length v) shape.c) (eqb (m writer_phase) 0) (ltb (m writes_ended) most_writes)
    where
      go : (a b d : Bool)
          → number_of (cond a (cond b (cond d (accept (Steps.begins_write v) false) (refuse 7)) (refuse 5))
          (refuse 4))
          ≡ cond a (cond b (cond d 0 7) 5) 4
      go true true true = refl
      go true true false = refl
      go true false d = refl
      go false b d = refl

  module _ (g : Guarded shape m) (w : Whole shape m) where
    -- a step out of phase p, busy or idle
    abbrev Goes_on : ℕ → Plan → Type 0
    Goes_on p x = number_of x ≡ cond (eqb p 0) 6 0

    pub reader_number : (r : ℕ) → r < n → Goes_on (m (phase r)) (reader_step shape m r)
    unfolding reader_step
    reader_number r l =
        at_number P (m (phase r)) 0 (m (phase r)) _ (refuse 2) (omega arith)
        (next (λ e. rw (eq-eqb _ _ e))
        (next (λ e. busy (λ z. omega arith))
        (next
        (λ e.
        if_less P (m (r_end (m (last r)))) (limit shape) (accept (Steps.unbinds m r) false) (refuse 2)
        (λ x. busy (λ z. omega arith))
        (λ x. absurd (omega (arith, g.end_room r l e))))
        (next
        (λ e.
        if_less P (counter (m current)) (limit shape) (accept (Steps.binds m r) false) (refuse 2)
        (λ x. busy (λ z. omega arith))
        (λ x. absurd (omega (arith, g.counter_room r l e))))
        (next (λ e. if_equal P (m (size (m (last r)))) 0 _ _ (λ x. busy (λ z. omega arith))
        (λ x. busy (λ z. omega arith)))
        (next (λ e. if_equal P (suc (m (pos r))) (m (len r)) _ _ (λ x. busy (λ z. omega arith))
        (λ x. busy (λ z. omega arith))) end))))))
        (λ h. absurd (omega (arith, (w.desk r l).phases)))
      where
        P : Plan → Type 0
        P = Goes_on (m (phase r))

        busy : m (phase r) ≢ 0 → ◌≡◌ {A = ℕ} 0 (cond (eqb (m (phase r)) 0) 6 0)
        busy d = rw (ne_eqb _ _ d)

    pub writer_number : Goes_on (m writer_phase) (writer_step shape m)
    unfolding writer_step
    writer_number =
        at_number P (m writer_phase) 0 (m writer_phase) _ (refuse 2) (omega arith)
        (next (λ e. rw (eq-eqb _ _ e))
        (next
        (λ e.
        if_true P (free m) (accept (Steps.picks m) false) _ (λ f. busy (λ z. omega arith))
        (λ f.
        if_equal P (m in_hand) (suc n) (refuse 8) (accept (Steps.passes m) false)
        (λ x. absurd (g.more_slots e f x)) (λ x. busy (λ z. omega arith))))
        (next (λ e. busy (λ z. omega arith))
        (next (λ e. busy (λ z. omega arith))
        (next (λ e. busy (λ z. omega arith))
        (next (λ e. busy (λ z. omega arith))
        (next (λ e. busy (λ z. omega arith))
        (next (λ e. busy (λ z. omega arith)) end))))))))
        (λ h. absurd (omega (arith, w.writer.phases)))
      where
        P : Plan → Type 0
        P = Goes_on (m writer_phase)

        busy : m writer_phase ≢ 0 → ◌≡◌ {A = ℕ} 0 (cond (eqb (m writer_phase) 0) 6 0)
        busy d = rw (ne_eqb _ _ d)

    pub step_number : (p : ℕ) → number_of (Steps.process_step shape m p)
        ≡ cond (ltb p n) (cond (eqb (m (phase p)) 0) 6 0) (cond (eqb p n) (cond (eqb (m writer_phase) 0) 6 0) 3)
    step_number p =
        if_less Reader p n (reader_step shape m p) (cond (eqb p n) (writer_step shape m) (refuse 3))
        (λ l. rw (lt-ltb p n l) (reader_number p l))
        (λ l. rw (le-ltb p n l) (if_equal Writer p n (writer_step shape m) (refuse 3)
        (λ e. rw (eq-eqb p n e) writer_number) (λ d. rw (ne_eqb p n d))))
      where
        Reader : Plan → Type 0
        Reader x =
            number_of x
            ≡ cond (ltb p n) (cond (eqb (m (phase p)) 0) 6 0) (cond (eqb p n) (cond (eqb (m writer_phase) 0) 6 0) 3)

        Writer : Plan → Type 0
        Writer x = number_of x ≡ cond (eqb p n) (cond (eqb (m writer_phase) 0) 6 0) 3
