use Rattle.std.proofs.Common.{◌∙◌}
use Rattle.mc_journal.proofs.SameWords.{sameb-same_word}
use Rattle.mc_journal.proofs.kept.is_same_word.Goals as goal

pub returns : goal.returns
returns c = c.eq.ensures ∙ sameb-same_word c.args.one c.args.other
