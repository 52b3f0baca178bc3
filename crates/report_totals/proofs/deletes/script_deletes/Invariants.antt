use Rattle.std.proofs.Common.{◌≡◌, ◌++◌, length, map}
use Rattle.std.specs.Prelude.{filter, ◌==◌}
use Rattle.board_model.specs.Scenario.{script}
use Rattle.board_model.specs.Tallies.{is_delete}
use Rattle.report_totals.proofs.deletes.script_deletes.Given as goal

abbrev pub decreases-loop-rest : goal.decreases-loop-rest
decreases-loop-rest l = length l.rest

abbrev pub invariant-loop-rest : goal.invariant-loop-rest
invariant-loop-rest l = l.deletes.items ++ map (λ c. is_delete c.call) (filter (λ c. c.domain == l.domain) l.rest) ≡ map (λ c. is_delete c.call) (script l.scenario l.domain)
