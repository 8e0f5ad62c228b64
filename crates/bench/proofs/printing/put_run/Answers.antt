-- `bench::printing::put_run` meets its contract: the run is begun, and its moves are played one by one.
-- Assumes nothing.
use Rattle.std.proofs.Common.{◌≡◌, rules, arith, sym, ap, subst, ◌∙◌}
use Rattle.text.specs.Sheet.{Puts}
use Rattle.tally.specs.Tally.{as_tally, no_tally}
use Rattle.bench.specs.Printed.{run_text}
use Rattle.playing.proofs.Starting.{begun_first}
use Rattle.bench.proofs.Course.{coursing_ready, coursing_more, coursing_done, run_puts}
use Rattle.bench.proofs.printing.put_run.Goals as goal

pub play-requires : goal.play-requires
play-requires c =
    coursing_ready c.loop-i.invariant (c.from-n.ensures ∙ ap (λ h. h.n) c.header-h.ensures) (omega arith)

pub loop-i-preserved : goal.loop-i-preserved
loop-i-preserved c =
    coursing_more c.loop-i.invariant (omega (arith, ap (λ h. h.moves) c.header-h.ensures)) c.play.ensures.lent
    c.play.ensures.course

pub returns : goal.returns
returns c =
    let b = c.args.file.now in
    let begun =
    begun_first b c.requires.file_value c.args.area.now _ _ c.requires.area_len c.begin_run.ensures in
    let none_yet : as_tally c.default.result ≡ no_tally = search rules in
    let lines =
    coursing_done c.loop-i.invariant (omega (arith, ap (λ h. h.moves) c.header-h.ensures)) c.put_last.ensures in
    subst (λ q. Puts c.args.sheet.now q (run_text b)) (sym (search rules))
    (run_puts b _ _ begun (c.from.ensures ∙ ap (λ h. h.starting) c.header-h.ensures)
    none_yet c.put_first.ensures lines)
