-- A move is its own process's: it is busy until it ends, and nobody else's desk is touched. Assumes nothing.
use mathlib.Core.Path.{◌≡◌, refl, sym, ap, ◌∙◌}
use mathlib.Core.Logic.{◌≢◌}
use mathlib.Core.Bool.{Bool, true, false, cond, not}
use Prim.Native.Nat.{ℕ, ◌≤◌}
use native.Mathlib.Omega.{arith}
use lib.Dec.{eqb, ltb, nltb→le}
use borrow.Author.Tests.{ne_eqb, lt-ltb, le-ltb}
use Rattle.theory.specs.Place.{Memory}
use Rattle.register.specs.Shape.{Shape}
use Rattle.register.specs.Area.{phase, writer_phase}
use Rattle.theory.specs.History.{Deed, Event, read_began, write_began, went_on, looked, published, read_ended}
use Rattle.theory.specs.History.{write_ended}
use Rattle.theory.proofs.Noted.{begins_read, goes_on, ends_read, begins_write, looks_on, writes_on, publishes_it}
use Rattle.theory.proofs.Noted.{ends_write}
use Rattle.atomic.proofs.Moves.{Does, by_reader, by_writer}
use Rattle.atomic.proofs.Frames.{desk_word, reader_leaves, ReaderSeen, reader_seen, writer_leaves}
use Rattle.atomic.proofs.Frames.{WriterSeen, writer_seen}

-- whether process p is in an operation
abbrev pub busy_in : ℕ → Memory → ℕ → Bool
busy_in n m p = not (eqb (m (cond (ltb p n) (phase p) writer_phase)) 0)

-- whether a deed ends an operation
abbrev pub is_end : Deed → Bool
is_end read_began = false
is_end (write_began v) = false
is_end (went_on k) = false
is_end looked = false
is_end (published ended) = ended
is_end (read_ended g) = true
is_end write_ended = true

reader_works : {m m' : Memory} {r : ℕ} {d : Deed} → ReaderSeen m m' r d
    → not (eqb (m' (phase r)) 0) ≡ not (is_end d)
reader_works (begins_read busy) = rw (ne_eqb _ _ busy)
reader_works (goes_on busy) = rw (ne_eqb _ _ busy)
reader_works (ends_read x) = rw x.rests

writer_works : {m m' : Memory} {d : Deed} → WriterSeen m m' d
    → not (eqb (m' writer_phase) 0) ≡ not (is_end d)
writer_works (begins_write x) = rw (ne_eqb _ _ x.busy)
writer_works (looks_on x) = rw (ne_eqb _ _ x.busy)
writer_works (writes_on x) = rw (ne_eqb _ _ x.busy)
writer_works (publishes_it x) = rw x.after
writer_works (ends_write x) = rw x.after

pub works : {shape : Shape} {m m' : Memory} {e : Event} → Does shape m e m'
    → busy_in shape.n m' e.who ≡ not (is_end e.what)
works {shape} (by_reader {r = r} l x) = rw (lt-ltb r shape.n l) (reader_works (reader_seen x))
works {shape} (by_writer x) = rw (le-ltb shape.n shape.n (omega arith)) (writer_works (writer_seen x))

-- every word of the desk of a reader that does not move
pub desk_same : {shape : Shape} {m m' : Memory} {e : Event} → Does shape m e m' → (f r j : ℕ) → r ≢ e.who
    → m' (desk_word f r j) ≡ m (desk_word f r j)
desk_same (by_reader l x) f r j d = (reader_leaves x).desk f r j d
desk_same (by_writer x) f r j d = (writer_leaves x).desk f r j

writer_same : {shape : Shape} {m m' : Memory} {e : Event} → Does shape m e m' → e.who ≢ shape.n
    → m' writer_phase ≡ m writer_phase
writer_same (by_reader l x) d = (reader_leaves x).writer 0 0
writer_same (by_writer x) d = absurd (d refl)

-- nobody else becomes busy or idle
pub others_same : {shape : Shape} {m m' : Memory} {e : Event} → Does shape m e m' → (p : ℕ) → p ≤ shape.n
    → p ≢ e.who → busy_in shape.n m' p ≡ busy_in shape.n m p
others_same {shape} {m = m} {m' = m'} {e = e} x p l d = go (ltb p n) refl
  where
    n : ℕ
    n = shape.n

    -- the writer is none of the readers
    go : (t : Bool) → ltb p n ≡ t
        → not (eqb (m' (cond t (phase p) writer_phase)) 0) ≡ not (eqb (m (cond t (phase p) writer_phase)) 0)
    go true y = ap (λ k. not (eqb k 0)) (desk_same x 0 p 0 d)
    go false y =
        let here : p ≡ n = omega (arith, nltb→le p n (rw y tt)) in
        ap (λ k. not (eqb k 0)) (writer_same x (λ z. d (here ∙ sym z)))
