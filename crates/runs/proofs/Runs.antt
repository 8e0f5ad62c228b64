-- A run file's run is the run of its accepted calls: the area, the answers and the tally, so the demands speak of it.
--     Called, one_call, no_call, called, one                     one move: one accepted call, or none
--     joined, after_, answers_, accepted_joined, behind          one list of calls behind another
--     whole, whole_got, nothing_paid                             a whole run, and what its reads got
--     plays_a_run                                                the promise
--     few_words_read                                             its reads cost no more than its moves
-- Assumes nothing.
use mathlib.Core.Path.{◌≡◌, refl, sym, ap, subst, ◌∙◌}
use mathlib.Core.Logic.{◌≢◌}
use mathlib.Core.Bool.{true, cond}
use mathlib.Core.List.{List, [], ◌∷◌, ◌++◌}
use Prim.Native.Nat.{ℕ, zero, suc, ◌+◌, ◌*◌, ◌≤◌}
use native.Mathlib.Omega.{arith}
use lib.Dec.{eqb, leb}
use Rattle.std.proofs.lemmas.Bool.Decides.{nat_tests}
use lib.ListN.{length}
use borrow.Author.Tests.{eq-eqb, ne_eqb}
use Rattle.theory.specs.Table.{total}
use Rattle.register.specs.Shape.{Shape, table}
use Rattle.register.specs.Area.{readers as area_readers, memory, phase}
use Rattle.register.specs.Steps.{Move, write}
use Rattle.register.specs.Calls.{Answer, refused, fresh, made, answered, after}
use Rattle.atomic.specs.Seen.{Accepted, none, then, events}
use Rattle.theory.specs.History.{nothing_yet}
use Rattle.theory.proofs.Tests.{if_true, if_equal}
use Rattle.atomic.proofs.Intact.{keeps}
use Rattle.atomic.proofs.Making.{fresh_length, fresh_readers, at_desk}
use Rattle.atomic.proofs.Made.{fresh_memory}
use Rattle.theory.proofs.Sums.{sum, sum_same, sum_zero}
use Rattle.runfile.specs.Bytes.{words_at}
use Rattle.runfile.specs.RunFile.{readers, moves, values, values_at, starting_record, is_run_file, written, Asked}
use Rattle.runfile.specs.RunFile.{nothing, values_for, move, asked}
use Rattle.tally.specs.Tally.{no_tally}
use Rattle.playing.specs.Play.{run_shape, State, answer_of, played, next, answers, state_after, first_state}
use Rattle.playing.specs.Play.{run_state, run_answers, run_tally, call_of, accepted_call, accepted_calls}
use Rattle.runs.specs.Promise.{answers_to, accepted_only, greatest_age, read_got, reads_got, PlaysARun}
use Rattle.runs.proofs.ReadsGot.{gots, told_gots, events_joined, same_readers, move_gots}
use Rattle.runs.proofs.ReadCosts.{costs, paid, reads_cost}
use Rattle.runs.proofs.Tallies.{Adds, adds, answers_length, answers_to_length}
use Rattle.playing.proofs.Starting.{short, in_range, well, started}

-- ---- one move

-- calls that were accepted one after another, the area that they leave, and their answers among these
pub record Called (a a' : List ℕ) (l : List Move) (r : List Answer) : Type 0 where
  pub accepted : Accepted a l
  pub area : after a l ≡ a'
  pub answers : answers_to a l ≡ accepted_only r

-- accepted, a move is one accepted call
one_call : (a : List ℕ) (x : Move) → (answered a x).number ≡ 0
    → Called a (answered a x).area (x ∷ []) (answered a x ∷ [])
one_call a x z = record { accepted = then z none; area = refl; answers = sym (rw (eq-eqb _ _ z)) }

-- refused, it is none, and changes nothing
no_call : (a : List ℕ) (x : Answer) → x.number ≢ 0 → x.area ≡ a → Called a x.area [] (x ∷ [])
no_call a x d e = record { accepted = none; area = sym e; answers = sym (rw (ne_eqb _ _ d)) }

-- a call is one accepted call or none
called : (a : List ℕ) (x : Move)
    → Called a (answered a x).area (cond (eqb (answered a x).number 0) (x ∷ []) []) (answered a x ∷ [])
called a x =
    if_equal (λ l. Called a (answered a x).area l (answered a x ∷ [])) (answered a x).number 0 (x ∷ []) []
    (one_call a x) (λ d. no_call a (answered a x) d ((keeps a x).0 d).area)

one : (b : List ℕ) (s : State) (y : Asked)
    → Called s.area (answer_of b s y).area (cond (eqb (answer_of b s y).number 0) (call_of b s y) [])
    (answer_of b s y ∷ [])
one b s nothing = no_call s.area (refused 12 s.area) (λ e. absurd (omega arith)) refl
one b s (move x) = called s.area x
one b s (values_for k) =
    if_true P (leb (s.used + k) (values b)) (answered s.area x) (refused 13 s.area) (λ e. called s.area x)
    (λ e. no_call s.area (refused 13 s.area) (λ z. absurd (omega arith)) refl)
  where
    x : Move
    x = write (words_at k b (values_at b + 8 * s.used))

    P : Answer → Type 0
    P z = Called s.area z.area (cond (eqb z.number 0) (x ∷ []) []) (z ∷ [])

-- ---- the whole run

-- one list of calls behind another
joined : (a a' : List ℕ) (l k : List Move) → Accepted a l → after a l ≡ a' → Accepted a' k
    → Accepted a (l ++ k)
joined a a' [] k none e h = subst (λ y. Accepted y k) (sym e) h
joined a a' (x ∷ l) k (then z rest) e h = then z (joined (answered a x).area a' l k rest e h)

after_joined : (a a' : List ℕ) (l k : List Move) → after a l ≡ a' → after a (l ++ k) ≡ after a' k
after_joined a a' [] k e = ap (λ y. after y k) e
after_joined a a' (x ∷ l) k e = after_joined (answered a x).area a' l k e

answers_joined : (a a' : List ℕ) (l k : List Move) → after a l ≡ a'
    → answers_to a (l ++ k) ≡ answers_to a l ++ answers_to a' k
answers_joined a a' [] k e = ap (λ y. answers_to y k) e
answers_joined a a' (x ∷ l) k e =
    ap {B = List Answer} (λ y. answered a x ∷ y) (answers_joined (answered a x).area a' l k e)

accepted_joined : (x : Answer) (r : List Answer) → accepted_only (x ∷ []) ++ accepted_only r ≡ accepted_only
    (x ∷ r)
accepted_joined x r = grind (arith, nat_tests)

behind : (a a' a'' : List ℕ) (l k : List Move) (x : Answer) (r : List Answer) → Called a a' l (x ∷ [])
    → Called a' a'' k r → Called a a'' (l ++ k) (x ∷ r)
behind a a' a'' l k x r first rest =
    record {
      accepted = joined a a' l k first.accepted first.area rest.accepted;
      area = after_joined a a' l k first.area ∙ rest.area;
      answers =
          answers_joined a a' l k first.area ∙ ap (λ y. y ++ answers_to a' k) first.answers
          ∙ ap (λ y. accepted_only (x ∷ []) ++ y) rest.answers ∙ accepted_joined x r;
    }

whole : (b : List ℕ) (k i : ℕ) (s : State)
    → Called s.area (state_after b k i s).area (accepted_calls b k i s) (answers b k i s)
unfolding played
whole b zero i s = record { accepted = none; area = refl; answers = refl }
whole b (suc k) i s =
    behind s.area (next b s (written b i)).area _ (accepted_call b s (written b i)) _ _ _
    (one b s (asked (readers b) (written b i))) (whole b k (suc i) (next b s (written b i)))

-- what its reads got
whole_got : (b : List ℕ) (k i : ℕ) (s : State) → area_readers s.area ≡ readers b
    → gots (events s.area (accepted_calls b k i s)) ≡ reads_got b k i s
unfolding played
whole_got b zero i s kept = refl
whole_got b (suc k) i s kept =
    let first = one b s (asked (readers b) (written b i)) in
    let calls = accepted_call b s (written b i) in
    let s' = next b s (written b i) in
    let rest = accepted_calls b k (suc i) s' in
    let kept' : area_readers s'.area ≡ readers b =
    ap area_readers (sym first.area) ∙ same_readers s.area calls first.accepted ∙ kept in
    events_joined s.area s'.area calls rest first.area
    ∙ ap (λ y. y ++ gots (events s'.area rest)) (move_gots b s (written b i) kept)
    ∙ ap (λ y. read_got (readers b) (written b i).process (played b s (written b i)).answer ++ y)
    (whole_got b k (suc i) s' kept')

-- nobody has been paid for anything in a fresh area
nothing_paid : (b : List ℕ) (e : is_run_file b ≡ true)
    → sum (readers b) (paid (memory (first_state b).area)) ≡ 0
nothing_paid b e =
    sum_same (readers b) (paid (memory (first_state b).area)) (λ r. 0) (λ r l. idle r) ∙ sum_zero (readers b)
  where
    idle : (r : ℕ) → paid (memory (first_state b).area) r ≡ 0
    idle r =
        rw (ap (λ m. m (phase r)) (fresh_memory (run_shape b) (starting_record b) (in_range b e) (short b e))
        ∙ at_desk (run_shape b) (starting_record b) 0 r)

-- ---- it is a run of the demands

pub plays_a_run : PlaysARun
plays_a_run b e =
    record {
      run = record {
        shape = shape;
        first = v;
        slice = fresh shape v;
        moves = calls;
        made_well = well b e (fresh shape v) exact;
        accepted = subst (λ a. Accepted a calls) (sym same) all.accepted;
      };
      its_shape = refl;
      its_record = refl;
      its_moves = refl;
      its_answers = ap (λ a. answers_to a calls) same ∙ all.answers;
      its_reads =
          told_gots (length calls) nothing_yet (events (made shape v (fresh shape v)).area calls)
          ∙ ap (λ a. gots (events a calls)) same
          ∙ whole_got b (moves b) 0 (first_state b) (fresh_readers shape v (short b e));
      its_area = ap (λ a. after a calls) same ∙ all.area;
      its_accepted =
          omega (arith, counts.accepted, ap length all.answers, answers_to_length (first_state b).area calls);
      its_refusals = omega (arith, counts.all, answers_length b (moves b) 0 (first_state b));
      its_greatest =
          omega (
            arith,
            counts.greatest,
            ap greatest_age all.answers,
            ap (λ a. greatest_age (answers_to a calls)) same,
          );
    }
  where
    shape : Shape
    shape = run_shape b

    v : List ℕ
    v = starting_record b

    all : Called (first_state b).area (run_state b).area (accepted_calls b (moves b) 0 (first_state b))
        (run_answers b)
    all = whole b (moves b) 0 (first_state b)

    calls : List Move
    calls = accepted_calls b (moves b) 0 (first_state b)

    exact : length (fresh shape v) ≡ total (table shape)
    exact = fresh_length shape v (short b e)

    same : (made shape v (fresh shape v)).area ≡ fresh shape v
    same = started b e (fresh shape v) exact

    counts : Adds no_tally (run_tally b) (run_answers b)
    counts = adds no_tally (run_answers b)

-- ---- its reads cost no more than its moves

pub few_words_read : (b : List ℕ) → is_run_file b ≡ true
    → costs (reads_got b (moves b) 0 (first_state b)) ≤ moves b
few_words_read b e =
    let played_run = plays_a_run b e in
    let all = whole b (moves b) 0 (first_state b) in
    let calls = accepted_calls b (moves b) 0 (first_state b) in
    let kept = fresh_readers (run_shape b) (starting_record b) (short b e) in
    let paid_for = reads_cost (readers b) (first_state b).area calls kept all.accepted in
    let same = ap costs (whole_got b (moves b) 0 (first_state b) kept) in
    omega (
      arith,
      paid_for,
      same,
      nothing_paid b e,
      played_run.its_accepted ∙ ap length played_run.its_moves,
      played_run.its_refusals,
    )
