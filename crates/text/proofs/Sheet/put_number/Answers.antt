-- `text::Sheet::put_number` meets its contract: the kit's digits are those of the definition. Assumes nothing.
use Rattle.std.proofs.Common.{arith}
use Rattle.text.proofs.Decimals.{word_spelled}
use Rattle.text.proofs.Sheet.put_number.Goals as goal

pub returns : goal.returns
returns c =
    let told = c.decimal-k.ensures in
    rw (← word_spelled _ c.args.n (omega arith) told.len, ← told.digits) c.put_all.ensures
