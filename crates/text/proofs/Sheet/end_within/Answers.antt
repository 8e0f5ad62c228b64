-- `text::Sheet::end_within` meets its contract: a text ends inside its bytes. Assumes nothing.
use Rattle.std.proofs.Common.{refl}
use Rattle.text.proofs.Sheets.{put_nothing}
use Rattle.text.proofs.Sheet.end_within.Goals as goal

pub returns : goal.returns
returns c = record { text = rw c.min-self.ensures (put_nothing _ _); same_bytes = refl }
