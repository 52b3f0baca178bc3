use Rattle.std.proofs.Common.{length}
use Rattle.report_text.proofs.journal_lanes.+journal_of.Given as goal

abbrev pub decreases-journal_of : goal.decreases-journal_of
decreases-journal_of l = length l.all.now
