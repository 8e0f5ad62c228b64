-- `lines::put_move` meets its contract: a finished read has its fields too. Assumes nothing.
use Rattle.std.proofs.Common.{◌≡◌, [], ◌∷◌, map, append-nil, rules}
use Rattle.register.specs.Calls.{shown}
use Rattle.runfile.specs.Code.{as_written}
use Rattle.text.specs.Lines.{decimal}
use Rattle.text.proofs.Sheets.{then_puts}
use Rattle.lines.specs.OneLine.{read_fields}
use Rattle.lines.specs.Code.{answered}
use Rattle.lines.proofs.Putting.{five_pieces, one_if_so}
use Rattle.lines.proofs.put_move.Goals as goal
use Rattle.lines.proofs.put_move.Goals.{then-x+then-w-n, else-x}

pub returns : goal.returns
returns c =
    let a = c.args in
    let x = answered a.x a.area.now in
    let front =
    rw (c.from.ensures, c.letter.ensures, c.from-2.ensures, one_if_so) at
    (then_puts (then_puts (then_puts c.put_number.ensures c.put_field.ensures) c.put_all.ensures)
    c.put_fields.ensures) in
    elim c.if-x.branch [
      | then-x+then-w-n w ↦
          let read : read_fields a.n (as_written a.w) x
          ≡ decimal x.age ∷ map decimal (shown x.area a.w.process []) = search rules in
          let fields =
          then_puts w.put_field-then-w-n.ensures
          (rw w.show_one.ensures at w.put_fields-then-w-n.ensures) in
          rw (← five_pieces _ _ _ _ _ _, read)
          (then_puts (then_puts front fields) (rw w.sheet-is at c.put.ensures))
      | else-x w ↦
          let no_read : read_fields a.n (as_written a.w) x ≡ [] = search rules in
          rw (← five_pieces _ _ _ _ _ _, no_read, append-nil) (then_puts front (rw w.sheet-is at c.put.ensures))
    ]
