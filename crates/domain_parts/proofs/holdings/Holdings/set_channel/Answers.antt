use Rattle.std.proofs.Common.{◌≡◌, ◌∷◌, [], sym, subst}
use Rattle.domain_parts.specs.LaneSeen.{LaneSeen}
use Rattle.domain_parts.specs.declared.holdings.Holdings.TheInside.{Inside}
use Rattle.domain_parts.specs.Parts.{Holding, Parts, Sound, holding_in, parts_in, peers_seen}
use Rattle.domain_parts.specs.Records.{kept}
use Rattle.domain_parts.specs.Steps.{Did, channel_set, done}
use Rattle.domain_parts.proofs.Stepping.{quiet-moved, quiet-peers}
use Rattle.domain_parts.proofs.TurnSteps.{channel_set-keeps}
use Rattle.domain_parts.proofs.holdings.Holdings.set_channel.Given.{Over}
use Rattle.domain_parts.proofs.holdings.Holdings.set_channel.Goals as goal

abbrev v : (g : Over) → (g.row.P.Denot → LaneSeen)
v g = g.P.PeerLane.seen

abbrev p : (g : Over) → Inside g.row.P.Denot → Parts
p g d = parts_in (v g) d.book d.endpoints d.requests d.table d.peers.items

after : (g : Over) (c : goal.After-set_channel g) → parts_in (v g) c.self.inside.book c.set_channel.new.self c.self.inside.requests c.self.inside.table c.self.inside.peers.items ≡ done (channel_set c.args.place (kept c.args.channel)) (p g c.self.inside)
after g c =
    let r = c.set_channel.ensures in
    let ps = sym (quiet-peers (peers_seen (v g) c.self.inside.peers.items)) in
    cc

pub invariant_of-self : goal.invariant_of-self
invariant_of-self g c = subst Sound (sym (after g c)) (channel_set-keeps (p g c.self.inside) c.args.place (kept c.args.channel) c.self.invariant)

pub returns : goal.returns
returns g c =
    let d = c.self.inside in
    let M = g.P.PeerLane.Moved in
    let steps = channel_set c.args.place (kept c.args.channel) ∷ [] in
    let now = holding_in (v g) d.book c.set_channel.new.self d.requests d.table d.peers.items in
    let did : Did M steps (holding_in (v g) d.book d.endpoints d.requests d.table d.peers.items) now = record { parts = after g c; moved = quiet-moved M g.met.P.PeerLane.none (v g) d.peers.items } in
    subst (λ (x : Holding g.row.P.Denot). Did M steps x now) c.self.view_is did
