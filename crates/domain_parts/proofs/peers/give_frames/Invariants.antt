use Rattle.std.proofs.Common.{None}
use Rattle.domain_parts.specs.GivingBack.{Giving}
use Rattle.domain_parts.proofs.peers.give_frames.Given as goal

abbrev pub invariant-loop : goal.invariant-loop
invariant-loop g l = Giving g.P.PeerLane.Moved g.P.PeerLane.seen l.slot None l.counter l.fn.book l.book l.fn.ends l.ends
