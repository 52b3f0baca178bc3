use Rattle.std.proofs.Common.{◌≡◌, ◌++◌, length, map}
use Rattle.std.specs.Prelude.{filter, ◌==◌}
use Rattle.board_model.specs.Scenario.{script}
use Rattle.report_check.proofs.steps.script_lines.Given as goal

abbrev pub decreases-loop-rest : goal.decreases-loop-rest
decreases-loop-rest l = length l.rest

abbrev pub invariant-loop-rest : goal.invariant-loop-rest
invariant-loop-rest l = map (λ c. c.now) l.lines.items ++ filter (λ c. c.domain == l.domain) l.rest ≡ script l.scenario l.domain
