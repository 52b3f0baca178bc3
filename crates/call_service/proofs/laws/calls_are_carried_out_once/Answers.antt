use Rattle.std.proofs.Common.{refl, []}
use Rattle.call_service.specs.Served.{calls_of, history}
use Rattle.call_service.proofs.Numbers.{at_most_one}
use Rattle.call_service.proofs.Histories.{numbered_from}
use Rattle.call_service.proofs.laws.calls_are_carried_out_once.Goals as goal

pub returns-clause-order : goal.returns-clause-order
returns-clause-order c rs = numbered_from [] rs (λ client. refl)

pub returns-clause-once : goal.returns-clause-once
returns-clause-once c rs client number = at_most_one 1 number (calls_of client (history rs)) (numbered_from [] rs (λ client. refl) client)
