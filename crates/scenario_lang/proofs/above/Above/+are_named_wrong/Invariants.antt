use Rattle.std.proofs.Common.{length}
use Rattle.scenario_lang.proofs.above.Above.+are_named_wrong.Given as goal

abbrev pub decreases-are_named_wrong : goal.decreases-are_named_wrong
decreases-are_named_wrong l = length l.kinds.now
