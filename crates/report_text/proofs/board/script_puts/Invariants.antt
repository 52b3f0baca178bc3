use Rattle.std.proofs.Common.{◌≡◌, ◌++◌, length}
use Rattle.std.specs.Prelude.{filter, ◌==◌}
use Rattle.board_model.specs.Scenario.{script}
use Rattle.report_text.specs.TextPass.{puts_of_script}
use Rattle.report_text.proofs.board.script_puts.Given as goal

abbrev pub decreases-loop-rest : goal.decreases-loop-rest
decreases-loop-rest l = length l.rest

abbrev pub invariant-loop-rest : goal.invariant-loop-rest
invariant-loop-rest l = l.puts.items ++ puts_of_script (filter (λ c. c.domain == l.domain) l.rest) ≡ puts_of_script (script l.scenario l.domain)
