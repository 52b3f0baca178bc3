use Rattle.std.proofs.Common.{◌≡◌, ◌<◌, ◌∙◌, ◌∷◌, [], ap, length, map, sym, subst, refl, Some}
use Rattle.std.specs.Prelude.{slice_get}
use Rattle.std.specs.Prelude.{slice_set}
use Rattle.lane_end.specs.SendMoves.{Looked}
use Rattle.board_model.specs.Deeds.{looks_back}
use Rattle.domain_parts.specs.LaneMoves.{sender}
use Rattle.domain_parts.specs.LaneSeen.{LaneSeen}
use Rattle.domain_parts.specs.declared.holdings.Holdings.TheInside.{Inside}
use Rattle.board_model.specs.State.{owed_to}
use Rattle.domain_parts.specs.declared.peer.Peer.{Peer}
use Rattle.domain_parts.specs.Peers.{peer_in}
use Rattle.domain_parts.specs.Doing.{Doing, owed_at}
use Rattle.domain_parts.specs.Parts.{Holding, Parts, Sound, holding_in, parts_in, peer_at, peer_seen, peers_seen, plain}
use Rattle.domain_parts.specs.Steps.{at_peer, moved_peer, looked_back}
use Rattle.domain_parts.proofs.Owing.{set-peer}
use Rattle.domain_parts.proofs.TurnMeaning.{looked_back-is}
use Rattle.domain_parts.proofs.TurnSteps.{looked_back-keeps}
use Rattle.domain_parts.proofs.Turning.{doing-by, peer-is, peers-are, seen-there, there-read}
use Rattle.domain_parts.proofs.holdings.Holdings.look_back.Given.{Over}
use Rattle.domain_parts.proofs.holdings.Holdings.look_back.Goals as goal

abbrev v : (g : Over) → (g.row.P.Denot → LaneSeen)
v g = g.P.PeerLane.seen

abbrev p : (g : Over) → Inside g.row.P.Denot → Parts
p g d = parts_in (v g) d.book d.endpoints d.requests d.table d.peers.items

there : (g : Over) (c : goal.After-self-1 g) → slice_get c.self.inside.peers.items c.args.place ≡ Some c.index_mut.result.now
there g c =
    let d = c.self.inside in
    there-read (v g) d.book d.endpoints d.requests d.table d.peers.items c.args.place c.index_mut.result.now (subst (λ (x : Holding g.row.P.Denot). c.args.place < length x.parts.peers) (sym c.self.view_is) c.requires) c.index_mut.ensures.value

peers : (g : Over) (c : goal.After-self-1 g) → peers_seen (v g) (slice_set c.self.inside.peers.items c.args.place (record (c.index_mut.result.now) { ends = c.look_back.new.self })) ≡ map (moved_peer (at_peer c.index_mut.result.now.number (sender (Looked c.look_back.result) ∷ []))) (peers_seen (v g) c.self.inside.peers.items)
peers g c =
    let d = c.self.inside in
    peers-are g.P.PeerLane.Moved g.met.P.PeerLane.none (v g) d.book d.endpoints d.requests d.table d.peers.items c.self.invariant c.args.place c.index_mut.result.now (there g c) c.look_back.new.self (sender (Looked c.look_back.result) ∷ []) c.look_back.ensures.seen c.look_back.ensures.moved

pub invariant_of-self : goal.invariant_of-self
invariant_of-self g c =
    let d = c.self.inside in
    subst (λ ps. Sound (record (p g d) { peers = ps })) (sym (peers g c)) (looked_back-keeps (p g d) c.index_mut.result.now.number c.look_back.result c.self.invariant)

pub returns-clause-doing : goal.returns-clause-doing
returns-clause-doing g c =
    let d = c.self.inside in
    let M = g.P.PeerLane.Moved in
    let x = c.index_mut.result.now in
    let n = c.look_back.result in
    let new = holding_in (v g) d.book d.endpoints d.requests d.table (slice_set d.peers.items c.args.place (record x { ends = c.look_back.new.self })) in
    subst (λ (h : Holding g.row.P.Denot). Doing M (peer_at h.parts c.args.place).number (looks_back (peer_at h.parts c.args.place).number n ∷ []) (sender (Looked n) ∷ []) h new) c.self.view_is
    (doing-by M g.met.P.PeerLane.none (v g) d.book d.endpoints d.requests d.table d.peers.items c.self.invariant c.args.place x (there g c) c.look_back.new.self (sender (Looked c.look_back.result) ∷ []) c.look_back.ensures.seen c.look_back.ensures.moved
    (looked_back x.number n ∷ []) (λ k. looks_back k n ∷ []) new (λ k. refl) (ap (λ ps. record (p g d) { peers = ps }) (peers g c)) refl (tt, tt) (looked_back-is (p g d) c.self.invariant c.args.place (peer_seen (v g) x) (seen-there M g.met.P.PeerLane.none (v g) d.book d.endpoints d.requests d.table d.peers.items c.self.invariant c.args.place x (there g c)) n) refl refl)

pub returns-clause-owed : goal.returns-clause-owed
returns-clause-owed g c =
    let d = c.self.inside in
    let x = c.index_mut.result.now in
    let ps = d.peers.items in
    let set = set-peer (v g) ps c.args.place x (record x { ends = c.look_back.new.self }) (there g c) in
    let was = peer-is g.P.PeerLane.Moved g.met.P.PeerLane.none (v g) d.book d.endpoints d.requests d.table ps c.self.invariant c.args.place x (there g c) in
    subst (λ (h : Holding g.row.P.Denot). owed_at (parts_in (v g) d.book d.endpoints d.requests d.table (slice_set ps c.args.place (record x { ends = c.look_back.new.self }))) c.args.place ≡ owed_at h.parts c.args.place) c.self.view_is
    (ap (λ (y : Peer LaneSeen). owed_to d.table.domain (peer_in plain [] d.table y)) set ∙ sym (ap (λ (y : Peer LaneSeen). owed_to d.table.domain (peer_in plain [] d.table y)) was))
