use Rattle.std.proofs.Common.{◌≡◌, subst}
use Rattle.lane_end.specs.PlainLane.{HasShuttled}
use Rattle.domain_core.specs.Carrying.{Carries}
use Rattle.linked_pair.specs.Pair.{Pair}
use Rattle.linked_pair.proofs.pair.LinkedPair.carry.Goals as goal

pub returns-clause-carries : goal.returns-clause-carries
returns-clause-carries c = subst (λ (p : Pair). Carries HasShuttled p.one.state.number p.two.state.number p.one.ends p.two.ends c.carry.new.one.ends c.carry.new.two.ends) c.self.view_is c.carry.ensures.carries

pub returns-clause-one : goal.returns-clause-one
returns-clause-one c = subst (λ (p : Pair). c.carry.new.one ≡ record p.one { ends = c.carry.new.one.ends }) c.self.view_is c.carry.ensures.one

pub returns-clause-two : goal.returns-clause-two
returns-clause-two c = subst (λ (p : Pair). c.carry.new.two ≡ record p.two { ends = c.carry.new.two.ends }) c.self.view_is c.carry.ensures.two
