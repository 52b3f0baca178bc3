use Rattle.std.proofs.Common.{length}
use Rattle.report_text.proofs.text.+read_lanes_of.Given as goal

abbrev pub decreases-read_lanes_of : goal.decreases-read_lanes_of
decreases-read_lanes_of l = length l.found.now
