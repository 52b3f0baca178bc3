use Rattle.std.proofs.Common.{length}
use Rattle.report_totals.proofs.rings.images.+used_by.Given as goal

abbrev pub decreases-used_by : goal.decreases-used_by
decreases-used_by l = length l.walked.now
