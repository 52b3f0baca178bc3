use Rattle.hop_relay.proofs.RelayRuns.{relay-run}
use Rattle.hop_relay.proofs.laws.relay_outcomes_are_relay_runs.Goals as goal

pub returns : goal.returns
returns c = relay-run
