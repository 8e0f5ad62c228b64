-- `lines::put_line` meets its contract: its pieces are the line. Assumes nothing.
use Rattle.text.proofs.Sheets.{then_puts}
use Rattle.lines.proofs.put_line.Goals as goal

pub returns : goal.returns
returns c = then_puts (then_puts c.put_all.ensures c.put_fields.ensures) c.put.ensures
