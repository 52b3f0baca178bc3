use Rattle.std.proofs.Common.{length}
use Rattle.report_totals.proofs.rings.given.+given_back.Given as goal

abbrev pub decreases-given_back : goal.decreases-given_back
decreases-given_back l = length l.journals.now
