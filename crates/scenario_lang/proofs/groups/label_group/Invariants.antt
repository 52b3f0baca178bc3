use Rattle.scenario_lang.proofs.GroupLemmas.{AreRead}
use Rattle.scenario_lang.proofs.groups.label_group.Given as goal

abbrev pub invariant-loop : goal.invariant-loop
invariant-loop l = AreRead l.word l.labels.items l.rest l.counter
