use Rattle.std.proofs.Common.{length}
use Rattle.view_text.proofs.text.+put_domains.Given as goal

abbrev pub decreases-put_domains : goal.decreases-put_domains
decreases-put_domains g l = length l.domains.now
