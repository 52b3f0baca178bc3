use Rattle.std.proofs.Common.{length}
use Rattle.view_expect.proofs.same.same_lines.Given as goal

abbrev pub decreases-loop-line : goal.decreases-loop-line
decreases-loop-line l = length l.rest
