use Rattle.std.proofs.Common.{◌∙◌}
use Rattle.scenario_lang.proofs.LabelLemmas.{set_has}
use Rattle.scenario_lang.proofs.labels.LabelSet.has.Goals as goal

pub returns : goal.returns
returns c = c.contains.ensures ∙ set_has c.args.self.now.told.keys c.args.domain c.args.label.now
