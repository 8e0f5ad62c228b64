-- `begins::begin_run` meets its contract: the starting record is taken, and the area made. Assumes nothing.
use Rattle.std.proofs.Common.{arith, ◌≡◌, sym, ◌∙◌, ap}
use Rattle.std.proofs.lemmas.List.{length-take-le}
use Rattle.std.proofs.lemmas.Grind.{common_steps}
use Rattle.runfile.specs.RunFile.{starting_record}
use Rattle.playing.specs.Play.{begun}
use Rattle.playing.proofs.Starting.{few_starting, taken}
use Rattle.playing.proofs.begins.begin_run.Goals as goal

pub returns : goal.returns
unfolding begun
returns c =
    let b = c.args.file.now in
    let head = c.header-h.ensures in
    let passed = sym c.is_run_file.ensures ∙ c.if-not-is_run_file.false in
    let its_record : c.take_values.new.words ≡ starting_record b =
    c.take_values.ensures ∙ taken b passed _ c.header-h.result (omega arith) head in
    grind (arith, common_steps, ap (λ z. z.n) head, ap (λ z. z.c) head)

pub slice_bounds-record-end : goal.slice_bounds-record-end
slice_bounds-record-end c =
    let passed = sym c.is_run_file.ensures ∙ c.if-not-is_run_file.false in
    let h = c.header-h.result in
    sym (length-take-le h.starting _ (few_starting c.args.file.now passed h c.header-h.ensures))
