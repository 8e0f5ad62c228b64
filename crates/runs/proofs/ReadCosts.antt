-- A finished read of L words costs L + 1, and each move pays for 1: so a run's reads cost at most its moves.
-- Assumes nothing.
use mathlib.Core.Path.{◌≡◌, refl, sym, ◌∙◌}
use mathlib.Core.Bool.{cond}
use mathlib.Core.List.{List, [], ◌∷◌, ◌++◌}
use Prim.Native.Nat.{ℕ, suc, ◌+◌, ◌≤◌}
use native.Mathlib.Omega.{arith}
use lib.Dec.{eqb, lit<}
use lib.ListN.{length}
use Rattle.theory.specs.Place.{Memory, apply}
use Rattle.register.specs.Shape.{Shape}
use Rattle.register.specs.Area.{readers, memory, phase, pos, len, read_record}
use Rattle.register.specs.Steps.{Move, copies}
use Rattle.register.specs.Calls.{answered, after}
use Rattle.atomic.specs.Seen.{Accepted, none, then, event, events}
use Rattle.theory.specs.History.{Got, Deed, Event}
use Rattle.theory.proofs.Tests.{eqb_same}
use Rattle.theory.proofs.Places.{row_length}
use Rattle.theory.proofs.Sums.{sum, sum_same, sum_one}
use Rattle.theory.proofs.Noted.{begins_write, looks_on, writes_on, publishes_it, ends_write}
use Rattle.atomic.proofs.Moves.{ReaderDoes, Does, by_reader, by_writer, desk_record}
use Rattle.atomic.proofs.Moves as moves
use Rattle.atomic.proofs.Frames.{reader_leaves, writer_leaves, WriterSeen, writer_seen}
use Rattle.atomic.proofs.Called.{Opened, opened, does, after_head, after_memory}
use Rattle.atomic.proofs.Observed.{observed}
use Rattle.runs.proofs.ReadsGot.{got_of, gots}

-- what a finished read costs
abbrev pub costs : List Got → ℕ
costs [] = 0
costs (g ∷ l) = suc (length g.shows) + costs l

pub costs_joined : (l k : List Got) → costs (l ++ k) ≡ costs l + costs k
costs_joined [] k = omega arith
costs_joined (g ∷ l) k = omega (arith, costs_joined l k)

-- what a reader has been paid for: 1 for its begin, and 1 for each word that it has copied
abbrev pub paid : Memory → ℕ → ℕ
paid m r = cond (eqb (m (phase r)) 0) 0 (cond (eqb (m (phase r)) 5) (suc (m (pos r))) 1)

-- a move of reader r pays for what it got
pays_own : {shape : Shape} {m : Memory} {r : ℕ} {m' : Memory} {d : Deed} → ReaderDoes shape m r d m'
    → costs (got_of d) + paid m' r ≤ paid m r + 1
pays_own {r = r} (moves.read_starts e) = rw (eqb_same r, e) (omega arith)
pays_own {r = r} (moves.finds_same e x) = rw (eqb_same r, e) (omega arith)
pays_own {r = r} (moves.finds_other e x) = rw (eqb_same r, e) (omega arith)
pays_own {r = r} (moves.leaves_slot e x) = rw (eqb_same r, e) (omega arith)
pays_own {r = r} (moves.joins_slot e x) = rw (eqb_same r, e) (omega arith)
pays_own {r = r} (moves.takes_none e x) = rw (eqb_same r, e) (omega arith)
pays_own {r = r} (moves.takes_size e x) = rw (eqb_same r, e) (omega arith)
pays_own {r = r} (moves.copies_word e x) = rw (eqb_same r, e) (omega arith)
pays_own {m = m} {r = r} (moves.copies_last e x) =
    let many : length (desk_record (apply m (copies m r)) r) ≡ suc (m (pos r)) =
    row_length (m (len r)) (λ i. apply m (copies m r) (read_record r i)) ∙ sym x in
    rw (many, eqb_same r, e) (omega arith)

-- a move of the writer got nothing
got_none : {m m' : Memory} {d : Deed} → WriterSeen m m' d → costs (got_of d) ≡ 0
got_none (begins_write x) = refl
got_none (looks_on x) = refl
got_none (writes_on x) = refl
got_none (publishes_it x) = refl
got_none (ends_write x) = refl

pays : {shape : Shape} {m m' : Memory} {e : Event} → Does shape m e m'
    → costs (got_of e.what) + sum shape.n (paid m') ≤ sum shape.n (paid m) + 1
pays {shape} {m} {m'} (by_reader {r = r} l x) =
    let f = reader_leaves x in
    let others = sum_one shape.n (paid m') (paid m) r l (λ q d. rw (f.desk 0 q 0 d, f.desk 2 q 0 d)) in
    omega (arith, pays_own x, others)
pays {shape} {m} {m'} (by_writer x) =
    let f = writer_leaves x in
    let all = sum_same shape.n (paid m') (paid m) (λ q k. rw (f.desk 0 q 0, f.desk 2 q 0)) in
    omega (arith, got_none (writer_seen x), all)

-- ---- a whole run

pub reads_cost : (n : ℕ) (a : List ℕ) (l : List Move) → readers a ≡ n → Accepted a l
    → costs (gots (events a l)) + sum n (paid (memory (after a l))) ≤ sum n (paid (memory a)) + length l
reads_cost n a [] kept none = omega arith
reads_cost n a (x ∷ l) kept (then z rest) =
    let o : Opened a x = opened a x z in
    let b = (answered a x).area in
    let kept' : readers b ≡ n = after_head o 1 (lit< tt) ∙ kept in
    let one : costs (got_of (event a x).what) + sum n (paid (memory b)) ≤ sum n (paid (memory a)) + 1 =
    rw (observed a x o, after_memory o, sym kept) (pays (does o).0) in
    omega (
      arith,
      one,
      reads_cost n b l kept' rest,
      costs_joined (got_of (event a x).what) (gots (events b l)),
    )
