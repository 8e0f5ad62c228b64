-- `text::Sheet::put_all`: the bytes up to here are put. Assumes nothing.
use Rattle.std.proofs.Common.{◌≡◌, take}
use Rattle.text.specs.Sheet.{sheet, put, as_sheet}
use Rattle.text.proofs.Sheet.put_all.Given as goal

abbrev pub invariant-loop-byte : goal.invariant-loop-byte
invariant-loop-byte l = sheet l.out l.end ≡ put (as_sheet l.fn.self) (take l.byte-index l.bytes)
