use Rattle.std.proofs.Common.{arith}
use Rattle.std.proofs.lemmas.List.{length-map}
use Rattle.domain_parts.specs.Ends.{ends_seen}
use Rattle.domain_parts.specs.AllMoved.{numbers_of}
use Rattle.domain_parts.specs.Parts.{peer_seen, peers_seen}
use Rattle.domain_parts.proofs.LinkPlaces.{length-rising}
use Rattle.domain_parts.proofs.holdings.opening.Holdings+Ends+S+R.into_links.Goals as goal

pub links_of-requires : goal.links_of-requires
links_of-requires g c =
    let ps = c.self.inside.peers.items in
    let v = ends_seen g.S.SendEnd.size g.S.SendEnd.free g.R.RecvEnd.size g.R.RecvEnd.shown g.R.RecvEnd.out in
    let rising = c.self.invariant.peers in
    omega (arith, length-rising (numbers_of (peers_seen v ps)) rising.few rising.rising, length-map (peers_seen v ps) (λ p. p.number), length-map ps (peer_seen v))
