use Rattle.std.proofs.Common.{length}
use Rattle.view_text.proofs.survey.+add_domains.Given as goal

abbrev pub decreases-add_domains : goal.decreases-add_domains
decreases-add_domains l = length l.domains.now
