use Rattle.std.proofs.Common.{length}
use Rattle.report_text.proofs.link_pass.+wrong_from.Given as goal

abbrev pub decreases-wrong_from : goal.decreases-wrong_from
decreases-wrong_from l = length l.rest.now
