use Rattle.std.proofs.Common.{length}
use Rattle.report_check.proofs.given.+note_given.Given as goal

abbrev pub decreases-note_given : goal.decreases-note_given
decreases-note_given l = length l.journals.now
