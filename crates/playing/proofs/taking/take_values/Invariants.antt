-- The loop of `taking::take_values`: the values taken so far are in their places. Assumes nothing.
use Rattle.std.proofs.Common.{◌≡◌, ◌+◌, ◌*◌, take}
use Rattle.runfile.specs.Bytes.{words_at}
use Rattle.runfile.specs.RunFile.{values_at}
use Rattle.playing.proofs.taking.take_values.Given as goal

abbrev pub invariant-loop-i : goal.invariant-loop-i
invariant-loop-i l = take l.i l.words ≡ words_at l.i l.file (values_at l.file + 8 * l.used)
