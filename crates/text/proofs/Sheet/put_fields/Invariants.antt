-- `text::Sheet::put_fields`: the words up to here are put. Assumes nothing.
use Rattle.std.proofs.Common.{take, map}
use Rattle.text.specs.Lines.{decimal, behind_blanks}
use Rattle.text.specs.Sheet.{Puts}
use Rattle.text.proofs.Sheet.put_fields.Given as goal

abbrev pub invariant-loop-word : goal.invariant-loop-word
invariant-loop-word l = Puts l.fn.self l.self (behind_blanks (map decimal (take l.word-index l.words)))
