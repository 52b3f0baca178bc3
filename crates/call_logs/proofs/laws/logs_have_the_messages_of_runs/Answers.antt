use Rattle.call_logs.proofs.LogsCollected.{has_messages}
use Rattle.call_logs.proofs.laws.logs_have_the_messages_of_runs.Goals as goal

pub returns : goal.returns
returns c = has_messages
