-- How long the text is: every file's is shorter than the bytes that are lent for it.
--     digits_length, few_digits, decimal_length, four_digits, flag_length   of a number
--     field_length, fields_length, line_length, numbers_length              of fields, of a line
--     read_length, answer_length, lines_length                              of a read's fields, of moves' lines
--     first_length, last_length, run_length, refused_length                 of the other lines, of a run's text
--     text_length, text_whole                                               of any file's text; it is whole
-- Assumes nothing.
use mathlib.Core.Path.{◌≡◌}
use mathlib.Core.Bool.{Bool, true, false}
use mathlib.Core.List.{List, [], ◌∷◌, ◌++◌, map}
use Prim.Native.Nat.{ℕ, zero, suc, ◌+◌, ◌*◌, ◌/◌, ◌^◌, ◌≤◌, ◌<◌}
use native.Mathlib.Nat.{pow-suc}
use native.Mathlib.Omega.{arith}
use lib.ListN.{length, take, length-append}
use Rattle.std.proofs.lemmas.List.{length_push}
use Rattle.std.proofs.lemmas.Bool.Decides.{nat_tests}
use Rattle.register.specs.Area.{current, memory}
use Rattle.register.specs.Calls.{Answer, shown}
use Rattle.theory.proofs.Tests.{if_true}
use Rattle.runfile.specs.RunFile.{readers, capacity, moves, is_run_file, Written, written}
use Rattle.runfile.proofs.Files.{file_facts}
use Rattle.text.specs.Lines.{Text, blank, digits_within, decimal, behind_blanks, line}
use Rattle.text.specs.Sheet.{sheet, put}
use Rattle.text.proofs.Sheets.{put_whole}
use Rattle.tally.specs.Tally.{Tally}
use Rattle.playing.specs.Play.{State, played, next, first_state, run_state, run_tally}
use Rattle.runs.specs.Promise.{read_got, reads_got}
use Rattle.runs.proofs.ReadCosts.{costs, costs_joined}
use Rattle.runs.proofs.Runs.{few_words_read}
use Rattle.lines.specs.OneLine.{letter, one_if, read_fields, answer_line, run_word, end_word, refused_word}
use Rattle.lines.specs.OneLine.{first_line, last_line, refused_text}
use Rattle.bench.specs.Printed.{move_line, move_lines, run_text, printed}
use Rattle.bench.specs.Sizes.{text_bytes}

-- ---- numbers

digits_length : (f n : ℕ) → length (digits_within f n) ≤ f
digits_length zero n = omega arith
digits_length (suc f) n = grind (arith, length_push, nat_tests, digits_length f (n / 10))

few_digits : (f k n : ℕ) → n < 10 ^ suc k → length (digits_within f n) ≤ suc k
few_digits zero k n h = omega arith
few_digits (suc f) zero n h =
    let small : n < 10 = omega (arith, h, pow-suc 10 0) in
    grind (arith, length_push, nat_tests)
few_digits (suc f) (suc k) n h =
    let less : n / 10 < 10 ^ suc k = omega (arith, h, pow-suc 10 (suc k)) in
    grind (arith, length_push, nat_tests, few_digits f k (n / 10) less)

decimal_length : (n : ℕ) → length (decimal n) ≤ 20
unfolding decimal
decimal_length n = digits_length 20 n

four_digits : (n : ℕ) → n < 10000 → length (decimal n) ≤ 4
unfolding decimal
four_digits n h = few_digits 20 3 n (omega arith)

flag_length : (so : Bool) → length (decimal (one_if so)) ≤ 1
unfolding decimal
flag_length true = omega arith
flag_length false = omega arith

-- ---- fields and lines

field_length : (t : Text) (l : List Text) → length (behind_blanks (t ∷ l)) ≡ suc (length t) + length
    (behind_blanks l)
field_length t l = length-append (blank ∷ t) (behind_blanks l)

fields_length : (v : List ℕ) → length (behind_blanks (map decimal v)) ≤ 21 * length v
fields_length [] = omega arith
fields_length (x ∷ v) =
    omega (arith, field_length (decimal x) (map decimal v), decimal_length x, fields_length v)

line_length : (t : Text) (l : List Text) → length (line t l) ≡ length t + length (behind_blanks l) + 1
line_length t l = simp (length_push, length-append)

-- of a word with numbers behind it
numbers_length : (t : Text) (v : List ℕ) → length (line t (map decimal v)) ≤ length t + 21 * length v + 1
numbers_length t v = omega (arith, line_length t (map decimal v), fields_length v)

-- ---- the line of a move

read_length : (n : ℕ) (w : Written) (x : Answer)
    → length (behind_blanks (read_fields n w x)) ≤ 21 * costs (read_got n w.process x)
read_length n w x =
    let v = shown x.area w.process [] in
    grind (arith, nat_tests, field_length (decimal x.age) (map decimal v), decimal_length x.age, fields_length v)

answer_length : (n i : ℕ) (w : Written) (x : Answer) → i < 10000
    → length (answer_line n i w x) ≤ 51 + 21 * costs (read_got n w.process x)
answer_length n i w x h =
    let r = read_fields n w x in
    let f = decimal (one_if x.ended) in
    let m = decimal x.number in
    let k : Text = letter w.kind ∷ [] in
    let p = decimal w.process in
    omega (
      arith,
      line_length (decimal i) (p ∷ k ∷ m ∷ f ∷ r),
      field_length p (k ∷ m ∷ f ∷ r),
      field_length k (m ∷ f ∷ r),
      field_length m (f ∷ r),
      field_length f r,
      four_digits i h,
      decimal_length w.process,
      decimal_length x.number,
      flag_length x.ended,
      read_length n w x,
    )

-- ---- the whole text

lines_length : (b : List ℕ) (k i : ℕ) (s : State) → i + k ≤ 10000
    → length (move_lines b k i s) ≤ 51 * k + 21 * costs (reads_got b k i s)
lines_length b zero i s h = omega arith
lines_length b (suc k) i s h =
    let w = written b i in
    let x = (played b s w).answer in
    let s' = next b s w in
    omega (
      arith,
      length-append (move_line b i s) (move_lines b k (suc i) s'),
      answer_length (readers b) i w x
          (omega arith),
      lines_length b k (suc i) s' (omega arith),
      costs_joined (read_got (readers b) w.process x) (reads_got b k (suc i) s'),
    )

first_length : (b : List ℕ) → length (first_line b) ≤ 67
first_length b = omega (arith, numbers_length run_word (readers b ∷ capacity b ∷ moves b ∷ []))

last_length : (a : List ℕ) (t : Tally) → length (last_line a t) ≤ 88
last_length a t =
    omega (arith, numbers_length end_word (memory a current ∷ t.accepted ∷ t.refusals ∷ t.greatest ∷ []))

run_length : (b : List ℕ) → is_run_file b ≡ true → length (run_text b) < text_bytes
unfolding run_text
run_length b e =
    let few = (file_facts b e).few_moves in
    let all = move_lines b (moves b) 0 (first_state b) in
    let end = last_line (run_state b).area (run_tally b) in
    omega (
      arith,
      length-append (first_line b) (all ++ end),
      length-append all end,
      first_length b,
      last_length (run_state b).area (run_tally b),
      lines_length b (moves b) 0 (first_state b) (omega arith),
      few_words_read b e,
    )

refused_length : length refused_text < text_bytes
refused_length = omega (arith, numbers_length refused_word (11 ∷ []))

-- so many bytes hold the text of any file
pub text_length : (b : List ℕ) → length (printed b) < text_bytes
unfolding printed
text_length b = if_true (λ (t : Text). length t < text_bytes) (is_run_file b) (run_text b) refused_text (run_length b)
    (λ e. refused_length)

pub text_whole : (b out : List ℕ) {out' : List ℕ} {end : ℕ}
    → sheet out' end ≡ put (sheet out 0) (printed b)
    → text_bytes ≤ length out → take end out' ≡ printed b
text_whole b out e h = put_whole out (printed b) e (omega (arith, text_length b))
