use Rattle.std.proofs.Common.{length}
use Rattle.view_text.proofs.text.+put_rest.Given as goal

abbrev pub decreases-put_rest : goal.decreases-put_rest
decreases-put_rest g l = length l.domains.now
