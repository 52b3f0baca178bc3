use Rattle.std.proofs.Common.{length}
use Rattle.report_events.proofs.events.+add_domains.Given as goal

abbrev pub decreases-add_domains : goal.decreases-add_domains
decreases-add_domains l = length l.domains.now
