-- `text::Sheet::put_field` meets its contract: the number goes behind the blank. Assumes nothing.
use Rattle.text.proofs.Sheets.{then_puts}
use Rattle.text.proofs.Sheet.put_field.Goals as goal

pub returns : goal.returns
returns c = then_puts c.put.ensures c.put_number.ensures
