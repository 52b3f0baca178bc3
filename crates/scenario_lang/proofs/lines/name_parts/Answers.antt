use Rattle.std.proofs.Common.{subst}
use Rattle.scenario_lang.specs.Fronts.{Cuts}
use Rattle.scenario_lang.proofs.FrontLemmas.{more_than_three}
use Rattle.scenario_lang.proofs.lines.name_parts.Goals as goal

pub returns-in-Some : goal.returns-in-Some
returns-in-Some c =
    more_than_three 58 c.args.word.now c.in_ok-domain.domain.now c.in_ok-domain.rest.now c.in_ok-node.node.now c.in_ok-node.port.now c.in-Some.field-0.0.now c.in-Some.field-0.1.now
    (subst (Cuts 58 c.args.word.now) c.in_ok-domain.was c.cut.ensures)
    (subst (Cuts 58 c.in_ok-domain.rest.now) c.in_ok-node.was c.cut-2.ensures)
    (subst (Cuts 58 c.in_ok-node.port.now) c.in-Some.is c.cut-3.ensures)
