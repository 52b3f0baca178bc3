use Rattle.outer_io.specs.Puts.{Puts}
use Rattle.call_report.specs.CallsText.{gots_text}
use Rattle.scenario_cli.specs.ActorLines.{gots_at}
use Rattle.scenario_cli.proofs.calls.put_each_gots.Given as goal

abbrev pub invariant-loop-before : goal.invariant-loop-before
invariant-loop-before g l = Puts g.K.Sink l.initial.out l.out (gots_text l.before (gots_at l.actors))
