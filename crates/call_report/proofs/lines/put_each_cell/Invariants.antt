use Rattle.std.specs.List.{flat_map}
use Rattle.outer_io.specs.Puts.{Puts}
use Rattle.call_service.specs.Served.{rising}
use Rattle.call_report.specs.CallsText.{cell_line}
use Rattle.call_report.proofs.lines.put_each_cell.Given as goal

abbrev pub invariant-loop-cell : goal.invariant-loop-cell
invariant-loop-cell g l = Puts g.K.Sink l.initial.out l.out (flat_map (cell_line l.service.history) (rising 0 l.cell))
