use Rattle.std.proofs.Common.{length}
use Rattle.report_view.proofs.journals.+add_journals.Given as goal

abbrev pub decreases-add_journals : goal.decreases-add_journals
decreases-add_journals l = length l.domains.now
