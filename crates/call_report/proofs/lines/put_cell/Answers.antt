use Rattle.std.proofs.Common.{◌≡◌, true, false, append_assoc, sym, ◌∙◌}
use Rattle.outer_io.proofs.Writing.{puts_then, puts_nothing}
use Rattle.call_report.specs.CallsText.{is_named}
use Rattle.call_report.proofs.CellLines.{line_unnamed, line_named}
use Rattle.call_report.proofs.lines.put_cell.Goals as goal

pub returns-then-not-has_call_on : goal.returns-then-not-has_call_on
returns-then-not-has_call_on g c =
    let unnamed : is_named c.args.service.now.history c.args.cell ≡ false = sym c.has_call_on.ensures ∙ c.if-not-has_call_on.true in
    rw (line_unnamed c.args.service.now.history c.args.cell unnamed) (puts_nothing g.K.Sink c.args.out.now)

pub returns : goal.returns
returns g c =
    let named : is_named c.args.service.now.history c.args.cell ≡ true = sym c.has_call_on.ensures ∙ c.if-not-has_call_on.false in
    let value = rw c.cell.ensures at c.put_number-2.ensures in
    rw (line_named c.args.service.now.history c.args.cell named)
    (simp append_assoc (puts_then _ _ _ _ _ _ c.put.ensures (puts_then _ _ _ _ _ _ c.put_number.ensures (puts_then _ _ _ _ _ _ c.put-2.ensures (puts_then _ _ _ _ _ _ value c.put-3.ensures)))))
