use Rattle.std.proofs.Common.{arith, subst}
use Rattle.std.proofs.lemmas.List.{length-map}
use Rattle.domain_parts.specs.Parts.{parts_in, peer_seen}
use Rattle.domain_parts.specs.CallSteps.{Rests}
use Rattle.domain_parts.specs.Parts.{Holding}
use Rattle.domain_parts.proofs.Stepping.{quiet-moved}
use Rattle.domain_parts.proofs.Turning.{peers-few}
use Rattle.domain_parts.proofs.holdings.Holdings.count_peers.Goals as goal

pub returns-clause-few : goal.returns-clause-few
returns-clause-few g c =
    let d = c.self.inside in
    let few = peers-few (parts_in g.P.PeerLane.seen d.book d.endpoints d.requests d.table d.peers.items) c.self.invariant in
    let long = length-map d.peers.items (peer_seen g.P.PeerLane.seen) in
    omega (arith, few, long, c.len.ensures, d.peers.ok.0)

pub returns-clause-rests : goal.returns-clause-rests
returns-clause-rests g c = subst (λ (h : Holding g.row.P.Denot). Rests g.P.PeerLane.Moved h) c.self.view_is (quiet-moved g.P.PeerLane.Moved g.met.P.PeerLane.none g.P.PeerLane.seen c.self.inside.peers.items)
