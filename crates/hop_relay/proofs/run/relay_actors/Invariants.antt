use Rattle.hop_relay.specs.NextLines.{contents}
use Rattle.hop_relay.specs.RelayActors.{AreNew}
use Rattle.hop_relay.specs.RelayBoard.{numbers_below}
use Rattle.hop_relay.proofs.run.relay_actors.Given as goal

abbrev pub invariant-loop-domain : goal.invariant-loop-domain
invariant-loop-domain l = AreNew (contents l.fn.packets.items) l.hops (numbers_below l.domain) l.actors.items
