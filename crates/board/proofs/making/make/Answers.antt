-- `making::make` meets its contract: the test comes first, and behind it the words are filled. Assumes nothing.
use Rattle.std.proofs.Common.{rules, ◌∙◌, sym, ap}
use Rattle.register.specs.Shape.{shape}
use Rattle.register.specs.Calls.{fresh}
use Rattle.area.specs.Words.{its_shape}
use Rattle.board.proofs.Made.{takes, refuses}
use Rattle.board.proofs.making.make.Goals as goal

pub returns-in_err-layout : goal.returns-in_err-layout
returns-in_err-layout c =
    let e =
    refuses (shape c.args.form c.args.n c.args.c) c.args.«record».now c.args.area.now
    (sym c.in_err-layout.was ∙ c.tested.ensures) in
    search rules

pub invariant_of-lent : goal.invariant_of-lent
invariant_of-lent c =
    record {
      sized =
          (takes (shape c.args.form c.args.n c.args.c) c.args.«record».now c.args.area.now
          (sym c.in_ok-layout.was ∙ c.tested.ensures)).sized;
    }

pub fill-requires : goal.fill-requires
fill-requires c =
    (takes (shape c.args.form c.args.n c.args.c) c.args.«record».now c.args.area.now
    (sym c.in_ok-layout.was ∙ c.tested.ensures)).short

pub returns : goal.returns
returns c =
    let t =
    takes (shape c.args.form c.args.n c.args.c) c.args.«record».now c.args.area.now
    (sym c.in_ok-layout.was ∙ c.tested.ensures) in
    let e = c.fill.ensures.words ∙ ap (λ p. fresh (its_shape p) c.args.«record».now) t.layout in
    let f = t.accepted in
    search rules
