use Rattle.domain_parts.specs.CallSteps.{Dropping}
use Rattle.domain_parts.proofs.holdings.Holdings.drop_all.Given as goal

abbrev pub invariant-loop : goal.invariant-loop
invariant-loop g l = Dropping g.P.PeerLane.Moved l.place l.counter l.fn.self l.self
