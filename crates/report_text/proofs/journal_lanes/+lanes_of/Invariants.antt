use Rattle.std.proofs.Common.{length}
use Rattle.report_text.proofs.journal_lanes.+lanes_of.Given as goal

abbrev pub decreases-lanes_of : goal.decreases-lanes_of
decreases-lanes_of l = length l.journals.now
