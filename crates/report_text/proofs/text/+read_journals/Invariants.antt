use Rattle.std.proofs.Common.{length}
use Rattle.report_text.proofs.text.+read_journals.Given as goal

abbrev pub decreases-read_journals : goal.decreases-read_journals
decreases-read_journals l = length l.lines.now
