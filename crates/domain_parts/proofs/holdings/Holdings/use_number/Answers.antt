use Rattle.std.proofs.Common.{◌∷◌, [], refl, sym, subst, arith}
use Rattle.domain_parts.specs.LaneSeen.{LaneSeen}
use Rattle.domain_parts.specs.declared.holdings.Holdings.TheInside.{Inside}
use Rattle.domain_parts.specs.Parts.{Holding, Parts, holding_in, parts_in, peers_seen, plain}
use Rattle.domain_parts.specs.Records.{Records}
use Rattle.domain_parts.specs.Sound.{AreSound}
use Rattle.domain_parts.specs.Steps.{Did, channel_given}
use Rattle.domain_parts.proofs.GivingLemmas.{sound-moved}
use Rattle.domain_parts.proofs.Stepping.{quiet-moved, quiet-peers}
use Rattle.domain_parts.proofs.holdings.Holdings.use_number.Given.{Over}
use Rattle.domain_parts.proofs.holdings.Holdings.use_number.Goals as goal

abbrev v : (g : Over) → (g.row.P.Denot → LaneSeen)
v g = g.P.PeerLane.seen

abbrev p : (g : Over) → Inside g.row.P.Denot → Parts
p g d = parts_in (v g) d.book d.endpoints d.requests d.table d.peers.items

pub invariant_of-self : goal.invariant_of-self
invariant_of-self g c =
    let d = c.self.inside in
    subst (λ (r : Records). AreSound plain d.book r d.requests d.table (p g d).peers) (sym c.number_channel.ensures.numbered)
    (sound-moved plain d.book d.endpoints _ d.requests d.requests d.table (p g d).peers (record { number = refl; given = refl; room = refl; live = refl }) refl (λ are. are) (λ s. refl) (omega arith) c.self.invariant.receives c.self.invariant)

pub returns : goal.returns
returns g c =
    let d = c.self.inside in
    let M = g.P.PeerLane.Moved in
    let r = c.number_channel.ensures.numbered in
    let ps = sym (quiet-peers (peers_seen (v g) d.peers.items)) in
    let now = holding_in (v g) d.book c.number_channel.new.self d.requests d.table d.peers.items in
    let did : Did M (channel_given ∷ []) (holding_in (v g) d.book d.endpoints d.requests d.table d.peers.items) now = record { parts = cc; moved = quiet-moved M g.met.P.PeerLane.none (v g) d.peers.items } in
    subst (λ (x : Holding g.row.P.Denot). Did M (channel_given ∷ []) x now) c.self.view_is did
