use Rattle.std.proofs.Common.{length}
use Rattle.report_check.proofs.walks.Walks.+walk_on.Given as goal

abbrev pub decreases-walk_on : goal.decreases-walk_on
decreases-walk_on l = length l.lines.now
