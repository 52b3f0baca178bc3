use Rattle.std.proofs.Common.{length}
use Rattle.view_expect.proofs.comparing.+answers_to.Given as goal

abbrev pub decreases-answers_to : goal.decreases-answers_to
decreases-answers_to l = length l.all.now
