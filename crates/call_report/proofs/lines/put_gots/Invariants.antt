use Rattle.std.proofs.Common.{take}
use Rattle.std.specs.List.{flat_map}
use Rattle.outer_io.specs.Puts.{Puts}
use Rattle.call_report.specs.CallsText.{got_line}
use Rattle.call_report.proofs.lines.put_gots.Given as goal

abbrev pub invariant-loop-got : goal.invariant-loop-got
invariant-loop-got g l = Puts g.K.Sink l.initial.out l.out (flat_map (got_line l.client) (take l.got-index l.gots))
