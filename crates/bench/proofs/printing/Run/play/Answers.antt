-- `bench::printing::Run::play` meets its contract: the move is decoded, played or refused, its line put, and the tally
-- counted. Assumes nothing.
use Rattle.std.proofs.Common.{sym, ap, ◌∙◌}
use Rattle.runfile.specs.Code.{as_asked}
use Rattle.bench.proofs.Course.{moved_on, malformed_on}
use Rattle.bench.proofs.printing.Run.play.Goals as goal

pub returns-in_default-clause-course : goal.returns-in_default-clause-course
returns-in_default-clause-course c =
    let a = c.args in
    let put = c.put_move.ensures in
    malformed_on _ a.i a.n c.written_move-w.result c.requires.0 c.written_move-w.ensures a.self.now c.put_move.new.self
    (sym (ap as_asked c.in_default.is) ∙ c.asked.ensures) put.text put.tally put.used put.area

pub returns-clause-course : goal.returns-clause-course
returns-clause-course c =
    let a = c.args in
    let put = c.put_move-2.ensures in
    moved_on _ a.i a.n c.written_move-w.result c.requires.0 c.written_move-w.ensures a.self.now
    c.put_move-2.new.self _ _ _
    (sym (ap as_asked c.in-Some.is) ∙ c.asked.ensures) c.play_call-x.ensures put.text put.tally put.used put.area
