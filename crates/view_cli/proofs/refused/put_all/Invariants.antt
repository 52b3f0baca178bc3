use Rattle.std.proofs.Common.{take}
use Rattle.std.specs.List.{flat_map}
use Rattle.outer_io.specs.Puts.{Puts}
use Rattle.view_cli.specs.RefusedCalls.{refused_line}
use Rattle.view_cli.proofs.refused.put_all.Given as goal

abbrev pub invariant-loop-call : goal.invariant-loop-call
invariant-loop-call g l = Puts g.K.Sink l.initial.out l.out (flat_map refused_line (take l.call-index l.calls))
