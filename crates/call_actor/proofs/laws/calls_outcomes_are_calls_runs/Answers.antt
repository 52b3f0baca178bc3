use Rattle.call_actor.proofs.CallsRuns.{calls-run}
use Rattle.call_actor.proofs.laws.calls_outcomes_are_calls_runs.Goals as goal

pub returns : goal.returns
returns c = calls-run
