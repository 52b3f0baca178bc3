use Rattle.std.proofs.Common.{length}
use Rattle.report_totals.proofs.ended_journal.+ended_journals.Given as goal

abbrev pub decreases-ended_journals : goal.decreases-ended_journals
decreases-ended_journals l = length l.journals.now
