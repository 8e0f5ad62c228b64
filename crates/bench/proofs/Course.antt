-- A run as the code goes through it, move by move: what is left of its text makes what all of it makes.
--     decoded, moved_on, malformed_on         what was decoded; one move more, and one that is malformed
--     counted_up                              no count grows by more than one
--     text_from, text_step                    the text once the rest is played; it is the same after one move more
--     Coursing                                what holds between two moves
--     coursing_ready, _more, _done            one move more can be played; it is; all are, and the last line is put
--     run_puts, refused_printed, run_printed  the whole text, from its parts
-- Assumes nothing.
use mathlib.Core.Path.{◌≡◌, sym, ap, subst, ◌∙◌}
use mathlib.Core.List.{List, ◌++◌, append_assoc}
use mathlib.Core.Bool.{true, false}
use Prim.Native.Nat.{ℕ, suc, ◌+◌, ◌-◌, ◌≤◌, ◌<◌}
use native.Mathlib.Numerals.{add-one}
use native.Mathlib.Omega.{arith}
use Rattle.std.proofs.lemmas.Bool.Decides.{nat_tests}
use Rattle.runfile.specs.RunFile.{readers, moves, starting_length, is_run_file, written, Asked, nothing, asked}
use Rattle.runfile.specs.Code.{as_written}
use Rattle.runfile.specs.declared.types.Written.{Written as CodeWritten}
use Rattle.std.specs.Prelude.{Err}
use Rattle.answer.specs.declared.refusals.Refusal.TheVariants.{Malformed}
use Rattle.answer.specs.Refusals.{answer_number, answer_age}
use Rattle.text.specs.Sheet.{Sheet, put, Puts}
use Rattle.std.specs.Borrow.{MutBor}
use Rattle.text.specs.declared.Sheet as code
use Rattle.text.proofs.Sheets.{put_twice, then_puts}
use Rattle.tally.specs.Tally.{Tally, no_tally, counted, as_tally, Room}
use Rattle.playing.specs.Play.{State, outcome, played, first_state}
use Rattle.lines.specs.OneLine.{answer_line, first_line, last_line, refused_text}
use Rattle.bench.specs.Printed.{move_line, run_text, printed}
use Rattle.bench.specs.Code.{Course, as_course, course_after, lines_from, SameLent}
use Rattle.playing.specs.Code.{as_outcome, state}
use Rattle.playing.specs.declared.types.Played.{Played}
use Rattle.bench.specs.declared.printing.Run.{Run}

-- ---- one move

-- what was decoded is what the definition asks for
decoded : (b : List ℕ) (s : State) (i n : ℕ) (w : CodeWritten) (y : Asked) → n ≡ readers b
    → as_written w ≡ written b i
    → y ≡ asked n (as_written w)
    → outcome b s y ≡ played b s (written b i)
unfolding played
decoded b s i n w y e d f =
    ap (outcome b s) (f ∙ ap (λ k. asked k (as_written w)) e ∙ ap (asked (readers b)) d)

-- what a malformed move comes to
abbrev refusal : ℕ → Played
refusal used = record { answer = Err Malformed; used = used }

module _ (b : List ℕ) (i n : ℕ) (w : CodeWritten) (the_n : n ≡ readers b)
    (the_move : as_written w ≡ written b i) (r r' : Run) where
  -- one move more, where y is what it asks for and x what it came to in the words a: its line is put, and it counts
  pub moved_on : (y : Asked) (x : Played) (a : MutBor (List ℕ)) → y ≡ asked n (as_written w)
      → as_outcome x a.now ≡ outcome b (state r.area.now r.used) y
      → Puts r.sheet.now r'.sheet.now (answer_line n i (as_written w) (as_outcome x a.now).answer)
      → as_tally r'.tally ≡ counted (as_tally r.tally) (answer_number x.answer) (answer_age x.answer)
      → r'.used ≡ x.used → r'.area ≡ a
      → as_course r' ≡ course_after b i (as_course r)
  moved_on y x a asks came puts counts uses leaves =
      let e = came ∙ decoded b (state r.area.now r.used) i n w y the_n the_move asks in
      cc (ap (λ o. o.answer) e, ap (λ o. o.used) e)

  -- what is malformed is refused by 12, and uses up nothing
  pub malformed_on : nothing ≡ asked n (as_written w)
      → Puts r.sheet.now r'.sheet.now (answer_line n i (as_written w) (as_outcome (refusal r.used) r.area.now).answer)
      → as_tally r'.tally ≡ counted (as_tally r.tally) 12 0
      → r'.used ≡ r.used → r'.area ≡ r.area
      → as_course r' ≡ course_after b i (as_course r)
  malformed_on asks =
      moved_on nothing (refusal r.used) r.area asks (ap (λ u. as_outcome (refusal u) r.area.now) (omega arith))

-- no count grows by more than one
counted_up : (t : Tally) (number age : ℕ)
    → ((counted t number age).accepted ≤ t.accepted + 1) × ((counted t number age).refusals ≤ t.refusals + 1)
unfolding counted
counted_up t number age = grind (arith, nat_tests)

-- ---- the moves one by one

-- the text of a run once the moves from move i on are played
abbrev pub text_from : List ℕ → ℕ → Course → Sheet
text_from b i g = put g.text (lines_from b (moves b - i) i g.state g.tally)

text_step : (b : List ℕ) (i : ℕ) (g : Course) → i < moves b
    → text_from b (i + 1) (course_after b i g) ≡ text_from b i g
text_step b i g h =
    let k = moves b - (i + 1) in
    let left : moves b - i ≡ suc k = omega arith in
    let p = move_line b i g.state in
    let g' = course_after b i g in
    rw left
    (put_twice g.text p (lines_from b k (i + 1) g'.state g'.tally)
    ∙ ap (λ j. put g.text (p ++ lines_from b k j g'.state g'.tally)) (add-one i)
    ∙ sym (ap (put g.text) (append_assoc p _ _)))

-- i moves of the run r were played, and it is r'
pub record Coursing (r r' : Run) (i : ℕ) : Type 0 where
  pub few_accepted : r'.tally.accepted ≤ i
  pub few_refusals : r'.tally.refusals ≤ i
  pub text : text_from r.file.now i (as_course r') ≡ text_from r.file.now 0 (as_course r)
  pub lent : SameLent r r'

module _ {r r' : Run} {i : ℕ} (x : Coursing r r' i) where
  -- one move more can be played
  pub coursing_ready : {n : ℕ} → n ≡ readers r.file.now → i ≤ 4294967295
      → (n ≡ readers r'.file.now) × Room r'.tally
  coursing_ready e few = (
    e ∙ ap (λ f. readers f.now) (sym x.lent.file),
    record { accepted = omega (arith, x.few_accepted); refusals = omega (arith, x.few_refusals) },
  )

  -- it is played
  pub coursing_more : {r'' : Run} → i < moves r.file.now → SameLent r' r''
      → as_course r'' ≡ course_after r'.file.now i (as_course r')
      → Coursing r r'' (i + 1)
  coursing_more h same e =
      let b = r.file.now in
      let e' = e ∙ ap (λ f. course_after f.now i (as_course r')) x.lent.file in
      let y = (played b (as_course r').state (written b i)).answer in
      let counts = counted_up (as_tally r'.tally) y.number y.age in
      record {
        few_accepted = omega (arith, counts.0, ap (λ z. z.tally.accepted) e', x.few_accepted);
        few_refusals = omega (arith, counts.1, ap (λ z. z.tally.refusals) e', x.few_refusals);
        text = ap (text_from b (i + 1)) e' ∙ text_step b i (as_course r') h ∙ x.text;
        lent =
            record {
              file = same.file ∙ x.lent.file;
              words = same.words ∙ x.lent.words;
              sheet = same.sheet ∙ x.lent.sheet;
              bytes = same.bytes ∙ x.lent.bytes;
            };
      }

  -- every move was played, and the last line is put
  pub coursing_done : {q : code.Sheet} → moves r.file.now ≤ i
      → Puts r'.sheet.now q (last_line r'.area.now (as_tally r'.tally))
      → Puts r.sheet.now q (lines_from r.file.now (moves r.file.now) 0 (as_course r).state (as_tally r.tally))
  coursing_done h last =
      let b = r.file.now in
      let none : moves b - i ≡ 0 = omega arith in
      let all : moves b - 0 ≡ moves b = omega arith in
      record {
        text = last.text ∙ rw (none, all) at x.text;
        same_bytes = last.same_bytes ∙ x.lent.bytes;
      }

-- ---- the whole text

pub run_puts : {s p q : code.Sheet} (b a : List ℕ) (used : ℕ) {t : Tally} → a ≡ (first_state b).area
    → used ≡ starting_length b → t ≡ no_tally
    → Puts s p (first_line b) → Puts p q (lines_from b (moves b) 0 (state a used) t)
    → Puts s q (run_text b)
unfolding run_text
run_puts {s} {p} {q} b a used e f g first rest =
    subst (λ z. Puts s q (first_line b ++ lines_from b (moves b) 0 z no_tally))
    (ap (λ k. state k used) e ∙ ap (state (first_state b).area) f)
    (then_puts first (subst (λ t. Puts p q (lines_from b (moves b) 0 (state a used) t)) g rest))

pub refused_printed : (b : List ℕ) → is_run_file b ≡ false → printed b ≡ refused_text
unfolding printed
refused_printed b e = rw e

pub run_printed : (b : List ℕ) → is_run_file b ≡ true → printed b ≡ run_text b
unfolding printed
run_printed b e = rw e
