use Rattle.std.proofs.Common.{length}
use Rattle.report_replay.proofs.queues.+messages_in.Given as goal

abbrev pub decreases-messages_in : goal.decreases-messages_in
decreases-messages_in l = length l.endpoints.now
