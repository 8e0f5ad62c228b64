-- `header::layout` meets its contract: an area has a header, and its N and C are in range. Assumes nothing.
use Rattle.std.proofs.Common.{arith}
use Rattle.register.proofs.Facts.{area_facts}
use Rattle.area.proofs.header.layout.Goals as goal

pub bounds-area-1 : goal.bounds-area-1
bounds-area-1 c = omega (arith, (area_facts c.args.area.now c.requires).exact)

pub bounds-area-2 : goal.bounds-area-2
bounds-area-2 c = omega (arith, (area_facts c.args.area.now c.requires).exact)

pub bounds-area-0 : goal.bounds-area-0
bounds-area-0 c = omega (arith, (area_facts c.args.area.now c.requires).exact)

pub new-requires : goal.new-requires
new-requires c = let r = (area_facts c.args.area.now c.requires).range in (r.few_readers, r.few_words)
