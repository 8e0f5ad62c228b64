-- `bench::printing::put_run_in` meets its contract: the space is enough for the area of any run. Assumes nothing.
use Rattle.bench.proofs.Space.{in_layout, inside, front_exact, front_total}
use Rattle.bench.proofs.printing.put_run_in.Goals as goal

pub new-p-requires : goal.new-p-requires
new-p-requires c = in_layout c.args.file.now c.requires.0 c.header-h.ensures

pub slice_bounds-put_run-end : goal.slice_bounds-put_run-end
slice_bounds-put_run-end c =
    inside c.args.file.now c.requires.0 c.header-h.ensures c.new-p.ensures c.args.space.now c.requires.1

pub slice_bounds-put_run-end-2 : goal.slice_bounds-put_run-end-2
slice_bounds-put_run-end-2 c =
    front_exact c.args.file.now c.requires.0 c.header-h.ensures c.new-p.ensures c.args.space.now c.requires.1

pub put_run-requires-clause-area_len : goal.put_run-requires-clause-area_len
put_run-requires-clause-area_len c =
    front_total c.args.file.now c.requires.0 c.header-h.ensures c.new-p.ensures c.args.space.now c.requires.1
