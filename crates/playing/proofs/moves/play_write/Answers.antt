-- `moves::play_write` meets its contract: the next values are written, and used up where the begin is accepted.
-- Assumes nothing.
use Rattle.std.proofs.Common.{arith}
use Rattle.std.proofs.lemmas.Grind.{common_steps}
use Rattle.answer.proofs.Numbered.{accepted_by_number}
use Rattle.playing.proofs.OneMove.{enough}
use Rattle.playing.proofs.moves.play_write.Goals as goal

pub returns-then-is_ok : goal.returns-then-is_ok
returns-then-is_ok c =
    let a = c.args in
    let answered_so = enough a.area.now a.file.now _ _ a.len (omega arith) (omega arith) c.take_values.ensures in
    let so = accepted_by_number c.begin_write-answer.result in
    grind (arith, common_steps)

pub returns-else-is_ok : goal.returns-else-is_ok
returns-else-is_ok c =
    let a = c.args in
    let answered_so = enough a.area.now a.file.now _ _ a.len (omega arith) (omega arith) c.take_values.ensures in
    let so = accepted_by_number c.begin_write-answer.result in
    grind (arith, common_steps)
