use Rattle.std.proofs.Common.{◌≡◌, ◌∙◌}
use Rattle.mc_journal.proofs.DigitsAlone.{same_digits}
use Rattle.mc_journal.proofs.spelled.spell_same.Goals as goal

pub returns : goal.returns
returns c = c.eq.ensures ∙ same_digits c.args.one.now c.args.two.now c.requires.one c.requires.two
