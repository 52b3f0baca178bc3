use Rattle.call_logs.proofs.SentTo.{was_sent}
use Rattle.call_logs.proofs.laws.received_messages_were_sent.Goals as goal

pub returns : goal.returns
returns c = was_sent
