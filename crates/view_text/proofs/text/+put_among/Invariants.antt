use Rattle.std.proofs.Common.{length}
use Rattle.view_text.proofs.text.+put_among.Given as goal

abbrev pub decreases-put_among : goal.decreases-put_among
decreases-put_among g l = length l.domains.now
