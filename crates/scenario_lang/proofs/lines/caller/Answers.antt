use Rattle.std.proofs.Common.{subst}
use Rattle.scenario_lang.specs.Fronts.{Cuts}
use Rattle.scenario_lang.proofs.FrontLemmas.{more_than_two}
use Rattle.scenario_lang.proofs.lines.caller.Goals as goal

pub returns-in-Some : goal.returns-in-Some
returns-in-Some c =
    more_than_two 46 c.args.word.now c.in_ok-domain.domain.now c.in_ok-domain.node.now c.in-Some.field-0.0.now c.in-Some.field-0.1.now
    (subst (Cuts 46 c.args.word.now) c.in_ok-domain.was c.cut.ensures)
    (subst (Cuts 46 c.in_ok-domain.node.now) c.in-Some.is c.cut-2.ensures)
