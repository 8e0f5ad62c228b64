-- `record_range` meets its contract: the test of the area, those of the reader, and then the words. Assumes nothing.
use Rattle.std.proofs.Common.{sym, ◌∙◌, arith, rules}
use Rattle.area.proofs.Sizes.{in_desk, desk_wide}
use Rattle.place.proofs.Resting.{named, untested, own_is, own_facts}
use Rattle.place.proofs.Placed.{range_none, range_own}
use Rattle.place.proofs.record_range.Goals as goal

pub returns-in_err-layout : goal.returns-in_err-layout
returns-in_err-layout c =
    c.from_residual.ensures ∙ range_none _ _ (untested _ c.tested.ensures c.args.reader c.in_err-layout.ensures.value)

pub invariant_of-view : goal.invariant_of-view
invariant_of-view c = record { sized = (named _ c.tested.ensures c.in_ok-layout.ensures.value).sized }

pub returns-then-not-rests : goal.returns-then-not-rests
returns-then-not-rests c =
    let h = named _ c.tested.ensures c.in_ok-layout.ensures.value in
    range_none _ _ (sym (own_is h c.args.reader) ∙ sym c.if-not-rests.ensures)

pub desk_word-start-requires : goal.desk_word-start-requires
desk_word-start-requires c =
    let h = named _ c.tested.ensures c.in_ok-layout.ensures.value in
    let o = own_facts _ _ (sym (own_is h c.args.reader) ∙ sym c.if-not-rests.ensures) h.layout in
    (o.sized.laid, o.exists, omega (arith, (in_desk o.sized.laid 0 o.words).fits, desk_wide o.sized.laid))

pub overflow_add-result : goal.overflow_add-result
overflow_add-result c =
    let h = named _ c.tested.ensures c.in_ok-layout.ensures.value in
    let o = own_facts _ _ (sym (own_is h c.args.reader) ∙ sym c.if-not-rests.ensures) h.layout in
    let begins = (in_desk o.sized.laid 0 o.words).starts in
    let within = o.within in
    search rules

pub returns : goal.returns
returns c =
    let h = named _ c.tested.ensures c.in_ok-layout.ensures.value in
    range_own _ _ h (sym (own_is h c.args.reader) ∙ sym c.if-not-rests.ensures) c.desk_word-start.ensures.0
    c.get-len.ensures
