-- What the code's own types stand for in the definitions, and what its functions share. Assumes nothing.
use Rattle.std.specs.Prelude.{Bool, List, ℕ, take, drop, Option, None, Some}
use Rattle.register.specs.Steps.{read, step}
use Rattle.runfile.specs.RunFile.{readers, capacity, starting_length, moves, moves_at, values}
use Rattle.runfile.specs.RunFile.{values_at, file_tests}
use Rattle.runfile.specs.RunFile.{Written, Asked, nothing, values_for, move}
use Rattle.runfile.specs.declared.types.Header.{Header}
use Rattle.runfile.specs.declared.types.Written as code_written
use Rattle.runfile.specs.declared.types.Call as code_call
use Rattle.runfile.specs.declared.types.Call.TheVariants as calls

-- ---- the header

abbrev pub header_of : List ℕ → Header
header_of b =
    record {
      n = readers b;
      c = capacity b;
      starting = starting_length b;
      moves = moves b;
      moves_at = moves_at b;
      values = values b;
      values_at = values_at b;
    }

-- the tests of N, C and the starting length, which follow the test of the length
abbrev pub size_tests : List ℕ → List Bool
size_tests b = take 5 (drop 1 (file_tests b))

-- the tests of the moves, the values and their places, which come last
abbrev pub part_tests : List ℕ → List Bool
part_tests b = drop 6 (file_tests b)

-- ---- moves

abbrev pub as_written : code_written.Written → Written
as_written w = record { process = w.process; kind = w.kind; len = w.len }

abbrev pub as_call : code_call.Call → Asked
as_call (calls.Values k) = values_for k
as_call (calls.Read p) = move (read p)
as_call (calls.Step p) = move (step p)

abbrev pub as_asked : Option code_call.Call → Asked
as_asked None = nothing
as_asked (Some x) = as_call x
