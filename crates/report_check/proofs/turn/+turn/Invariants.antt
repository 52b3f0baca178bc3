use Rattle.std.proofs.Common.{length}
use Rattle.report_check.proofs.turn.+turn.Given as goal

abbrev pub decreases-turn : goal.decreases-turn
decreases-turn l = length l.peers.now
