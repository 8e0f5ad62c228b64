-- `text::Sheet::put_all` meets its contract: the bytes go in one by one. Assumes nothing.
use Rattle.std.proofs.lemmas.List.{take_more}
use Rattle.text.specs.Sheet.{as_sheet}
use Rattle.text.proofs.Sheets.{then_put}
use Rattle.text.proofs.Sheet.put_all.Goals as goal

pub loop-byte-preserved : goal.loop-byte-preserved
loop-byte-preserved c =
    rw (take_more _ _ 0 c.loop-byte-test.true)
    (then_put (as_sheet c.args.self.now) _ _ c.loop-byte.invariant c.put_byte-end.ensures)
