use Rattle.std.proofs.Common.{length}
use Rattle.report_view.proofs.line.last_word.Given as goal

abbrev pub decreases-loop-after : goal.decreases-loop-after
decreases-loop-after l = length l.rest
