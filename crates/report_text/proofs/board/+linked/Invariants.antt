use Rattle.std.proofs.Common.{length}
use Rattle.report_text.proofs.board.+linked.Given as goal

abbrev pub decreases-linked : goal.decreases-linked
decreases-linked l = length l.links.now
