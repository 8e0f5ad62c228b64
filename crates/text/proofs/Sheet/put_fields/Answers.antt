-- `text::Sheet::put_fields` meets its contract: the fields go in one by one. Assumes nothing.
use Rattle.std.proofs.Common.{◌≡◌, List, [], ◌∷◌, ◌++◌, refl, sym, ap, ◌∙◌, append_assoc, append-nil}
use Rattle.std.proofs.lemmas.List.{take_more, map-append}
use Rattle.text.specs.Lines.{Text, blank, behind_blanks}
use Rattle.text.proofs.Sheets.{then_puts}
use Rattle.text.proofs.Sheet.put_fields.Goals as goal

behind_blanks-append : (l k : List Text) → behind_blanks (l ++ k) ≡ behind_blanks l ++ behind_blanks k
behind_blanks-append [] k = refl
behind_blanks-append (t ∷ l) k =
    ap (λ u. blank ∷ t ++ u) (behind_blanks-append l k)
    ∙ sym (append_assoc (blank ∷ t) (behind_blanks l) (behind_blanks k))

pub loop-word-preserved : goal.loop-word-preserved
loop-word-preserved c =
    rw (take_more _ _ 0 c.loop-word-test.true, map-append, behind_blanks-append, append-nil)
    (then_puts c.loop-word.invariant c.put_field.ensures)
