use Rattle.std.proofs.Common.{length}
use Rattle.report_totals.proofs.rings.walk.+walk_journals.Given as goal

abbrev pub decreases-walk_journals : goal.decreases-walk_journals
decreases-walk_journals l = length l.rest.now
