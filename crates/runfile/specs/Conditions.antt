-- What document 01 asks of a run file and of a move in it, as facts in its own numerals; `RunFile` has the same as
-- tests. Assumes nothing.
use Rattle.std.specs.Prelude.{◌≡◌, ◌≢◌, List, ℕ, ◌+◌, ◌*◌, ◌≤◌, length}
use Rattle.runfile.specs.Bytes.{number_at}
use Rattle.runfile.specs.RunFile.{Written}

-- a header of 28 bytes; N is 1 to 8, C is 1 to 32; I is at most C and at most V; M is at most 4,000, V at most 1,000;
-- the moves stand at 28, the values at 28 + 4M; the file is exactly 28 + 4M + 8V bytes
pub record FileFacts (b : List ℕ) : Type 0 where
  pub whole_header : 28 ≤ length b
  pub some_readers : 1 ≤ number_at 4 b 0
  pub few_readers : number_at 4 b 0 ≤ 8
  pub some_words : 1 ≤ number_at 4 b 4
  pub few_words : number_at 4 b 4 ≤ 32
  pub short : number_at 4 b 8 ≤ number_at 4 b 4
  pub few_moves : number_at 4 b 12 ≤ 4000
  pub moves_place : number_at 4 b 16 ≡ 28
  pub few_values : number_at 4 b 20 ≤ 1000
  pub recorded : number_at 4 b 8 ≤ number_at 4 b 20
  pub values_place : number_at 4 b 24 ≡ 28 + 4 * number_at 4 b 12
  pub exact : length b ≡ 28 + 4 * number_at 4 b 12 + 8 * number_at 4 b 20

-- another kind than begin (0) and step (1), or a length where none may be: with a step, or with a begin of another
-- process than N
pub data Malformed (n : ℕ) (w : Written) : Type 0 where
  another_kind : w.kind ≢ 0 → w.kind ≢ 1 → Malformed n w
  length_of_step : w.kind ≡ 1 → w.len ≢ 0 → Malformed n w
  length_of_read : w.kind ≡ 0 → w.process ≢ n → w.len ≢ 0 → Malformed n w
