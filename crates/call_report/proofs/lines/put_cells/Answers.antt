use Rattle.outer_io.proofs.Writing.{puts_then}
use Rattle.call_report.proofs.lines.put_cells.Goals as goal

pub returns : goal.returns
returns g c = puts_then _ _ _ _ _ _ c.put_each_cell.ensures c.put.ensures
