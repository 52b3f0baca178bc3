use Rattle.domain_parts.specs.CallSteps.{Rests}
use Rattle.domain_parts.specs.Parts.{shown}
use Rattle.domain_parts.proofs.WaitSteps.{Polling}
use Rattle.domain_parts.proofs.holdings.Holdings.poll.Given as goal

abbrev pub invariant-loop : goal.invariant-loop
invariant-loop g l = record {
  polling : Polling g.P.PeerLane.Moved l.ids l.counter (shown l.fn.self) (shown l.self) l.fn.journal.lines l.journal.lines;
  rests : Rests g.P.PeerLane.Moved l.self;
}
