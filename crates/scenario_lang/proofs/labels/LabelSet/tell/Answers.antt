use Rattle.scenario_lang.proofs.LabelLemmas.{told_with}
use Rattle.scenario_lang.proofs.labels.LabelSet.tell.Goals as goal

pub returns-in-Ok-clause-told : goal.returns-in-Ok-clause-told
returns-in-Ok-clause-told c = told_with c.args.self.now.told.keys c.insert.new.self.keys (c.args.domain, c.args.label) c.in-Ok.ensures.keys
