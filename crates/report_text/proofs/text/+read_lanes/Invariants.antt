use Rattle.std.proofs.Common.{length}
use Rattle.report_text.proofs.text.+read_lanes.Given as goal

abbrev pub decreases-read_lanes : goal.decreases-read_lanes
decreases-read_lanes l = length l.lines.now
