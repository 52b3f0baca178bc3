use Rattle.std.proofs.Common.{arith}
use Rattle.outer_io.proofs.Writing.{puts_then, puts_nothing}
use Rattle.call_report.specs.CallsText.{cell_line}
use Rattle.call_report.proofs.ListLemmas.{text_more}
use Rattle.call_report.proofs.lines.put_each_cell.Goals as goal

pub loop-cell-init : goal.loop-cell-init
loop-cell-init g c = puts_nothing g.K.Sink c.args.out.now

pub loop-cell-preserved : goal.loop-cell-preserved
loop-cell-preserved g c = rw (text_more (cell_line c.args.service.now.history) 0 c.loop-cell.cell c.loop-cell.cell (omega arith)) (puts_then _ _ _ _ _ _ c.loop-cell.invariant c.put_cell.ensures)
