use Rattle.std.proofs.Common.{◌≡◌, ◌∷◌, [], sym, subst}
use Rattle.mc_base.specs.declared.refusal.Refusal.TheVariants.{ChanClosed}
use Rattle.domain_parts.specs.LaneSeen.{LaneSeen}
use Rattle.domain_parts.specs.declared.holdings.Holdings.TheInside.{Inside}
use Rattle.domain_parts.specs.Parts.{Holding, Parts, Sound, holding_in, parts_in, peers_seen}
use Rattle.domain_parts.specs.Steps.{Did, done, receives_ended}
use Rattle.domain_parts.proofs.Stepping.{quiet-moved, quiet-peers}
use Rattle.domain_parts.proofs.TurnSteps.{receives_ended-keeps}
use Rattle.domain_parts.proofs.holdings.Holdings.end_receives.Given.{Over}
use Rattle.domain_parts.proofs.holdings.Holdings.end_receives.Goals as goal

abbrev v : (g : Over) → (g.row.P.Denot → LaneSeen)
v g = g.P.PeerLane.seen

abbrev p : (g : Over) → Inside g.row.P.Denot → Parts
p g d = parts_in (v g) d.book d.endpoints d.requests d.table d.peers.items

after : (g : Over) (c : goal.After-complete_all g) → parts_in (v g) c.self.inside.book c.self.inside.endpoints c.complete_all.new.requests c.self.inside.table c.self.inside.peers.items ≡ done (receives_ended c.args.at ChanClosed) (p g c.self.inside)
after g c =
    let q = c.complete_all.ensures in
    let ps = sym (quiet-peers (peers_seen (v g) c.self.inside.peers.items)) in
    cc

pub invariant_of-self : goal.invariant_of-self
invariant_of-self g c = subst Sound (sym (after g c)) (receives_ended-keeps (p g c.self.inside) c.args.at ChanClosed c.self.invariant)

pub returns : goal.returns
returns g c =
    let d = c.self.inside in
    let M = g.P.PeerLane.Moved in
    let steps = receives_ended c.args.at ChanClosed ∷ [] in
    let now = holding_in (v g) d.book d.endpoints c.complete_all.new.requests d.table d.peers.items in
    let did : Did M steps (holding_in (v g) d.book d.endpoints d.requests d.table d.peers.items) now = record { parts = after g c; moved = quiet-moved M g.met.P.PeerLane.none (v g) d.peers.items } in
    subst (λ (x : Holding g.row.P.Denot). Did M steps x now) c.self.view_is did
