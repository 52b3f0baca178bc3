use Rattle.std.proofs.Common.{take}
use Rattle.std.specs.List.{flat_map}
use Rattle.outer_io.specs.Puts.{Puts}
use Rattle.call_report.specs.CallsText.{carried_line}
use Rattle.call_report.proofs.lines.put_history.Given as goal

abbrev pub invariant-loop-at : goal.invariant-loop-at
invariant-loop-at g l = Puts g.K.Sink l.initial.out l.out (flat_map carried_line (take l.at l.service.history))
