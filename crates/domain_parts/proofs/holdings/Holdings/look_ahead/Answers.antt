use Rattle.std.proofs.Common.{◌≡◌, ◌<◌, ◌≤◌, ◌+◌, ◌∷◌, [], arith, ap, length, map, sym, subst, refl, Some}
use Rattle.std.specs.Prelude.{slice_get}
use Rattle.std.specs.Prelude.{slice_set}
use Rattle.lane_end.specs.ReceiveMoves as receiving
use Rattle.board_model.specs.Deeds.{looks_ahead}
use Rattle.board_model.specs.State.{held_from}
use Rattle.domain_parts.specs.LaneMoves.{receiver}
use Rattle.domain_parts.specs.LaneSeen.{LaneSeen}
use Rattle.domain_parts.specs.declared.peer.Peer.{Peer}
use Rattle.domain_parts.specs.declared.holdings.Holdings.TheInside.{Inside}
use Rattle.domain_parts.specs.Doing.{Doing}
use Rattle.domain_parts.specs.Parts.{Holding, Parts, Sound, holding_in, parts_in, peer_at, peer_seen, peers_seen, state_of}
use Rattle.domain_parts.specs.Steps.{at_peer, moved_peer, looked_ahead}
use Rattle.domain_parts.proofs.TurnMeaning.{looked_ahead-is}
use Rattle.domain_parts.proofs.TurnSteps.{looked_ahead-keeps}
use Rattle.domain_parts.proofs.Turning.{doing-by, held-out, peer-is, peers-are, seen-there, there-read}
use Rattle.domain_parts.proofs.holdings.Holdings.look_ahead.Given.{Over}
use Rattle.domain_parts.proofs.holdings.Holdings.look_ahead.Goals as goal

abbrev v : (g : Over) → (g.row.P.Denot → LaneSeen)
v g = g.P.PeerLane.seen

abbrev p : (g : Over) → Inside g.row.P.Denot → Parts
p g d = parts_in (v g) d.book d.endpoints d.requests d.table d.peers.items

there : (g : Over) (c : goal.After-self-1 g) → slice_get c.self.inside.peers.items c.args.place ≡ Some c.index_mut.result.now
there g c =
    let d = c.self.inside in
    there-read (v g) d.book d.endpoints d.requests d.table d.peers.items c.args.place c.index_mut.result.now (subst (λ (x : Holding g.row.P.Denot). c.args.place < length x.parts.peers) (sym c.self.view_is) c.requires) c.index_mut.ensures.value

peers : (g : Over) (c : goal.After-self-1 g) → peers_seen (v g) (slice_set c.self.inside.peers.items c.args.place (record (c.index_mut.result.now) { ends = c.look_ahead.new.self })) ≡ map (moved_peer (at_peer c.index_mut.result.now.number (receiver (receiving.Looked c.look_ahead.result) ∷ []))) (peers_seen (v g) c.self.inside.peers.items)
peers g c =
    let d = c.self.inside in
    peers-are g.P.PeerLane.Moved g.met.P.PeerLane.none (v g) d.book d.endpoints d.requests d.table d.peers.items c.self.invariant c.args.place c.index_mut.result.now (there g c) c.look_ahead.new.self (receiver (receiving.Looked c.look_ahead.result) ∷ []) c.look_ahead.ensures.seen c.look_ahead.ensures.moved

pub invariant_of-self : goal.invariant_of-self
invariant_of-self g c =
    let d = c.self.inside in
    subst (λ ps. Sound (record (p g d) { peers = ps })) (sym (peers g c)) (looked_ahead-keeps (p g d) c.index_mut.result.now.number c.look_ahead.result c.self.invariant)

pub returns-clause-doing : goal.returns-clause-doing
returns-clause-doing g c =
    let d = c.self.inside in
    let M = g.P.PeerLane.Moved in
    let x = c.index_mut.result.now in
    let n = c.look_ahead.result in
    let new = holding_in (v g) d.book d.endpoints d.requests d.table (slice_set d.peers.items c.args.place (record x { ends = c.look_ahead.new.self })) in
    subst (λ (h : Holding g.row.P.Denot). Doing M (peer_at h.parts c.args.place).number (looks_ahead (peer_at h.parts c.args.place).number n ∷ []) (receiver (receiving.Looked n) ∷ []) h new) c.self.view_is
    (doing-by M g.met.P.PeerLane.none (v g) d.book d.endpoints d.requests d.table d.peers.items c.self.invariant c.args.place x (there g c) c.look_ahead.new.self (receiver (receiving.Looked c.look_ahead.result) ∷ []) c.look_ahead.ensures.seen c.look_ahead.ensures.moved
    (looked_ahead x.number n ∷ []) (λ k. looks_ahead k n ∷ []) new (λ k. refl) (ap (λ ps. record (p g d) { peers = ps }) (peers g c)) refl (tt, tt) (looked_ahead-is (p g d) c.self.invariant c.args.place (peer_seen (v g) x) (seen-there M g.met.P.PeerLane.none (v g) d.book d.endpoints d.requests d.table d.peers.items c.self.invariant c.args.place x (there g c)) n) refl refl)

pub returns-clause-fits : goal.returns-clause-fits
returns-clause-fits g c =
    let d = c.self.inside in
    let M = g.P.PeerLane.Moved in
    let x = c.index_mut.result.now in
    let at = seen-there M g.met.P.PeerLane.none (v g) d.book d.endpoints d.requests d.table d.peers.items c.self.invariant c.args.place x (there g c) in
    let held = held-out (p g d) c.self.invariant c.args.place (peer_seen (v g) x) at in
    let out = ap (λ (l : LaneSeen). length l.out) c.look_ahead.ensures.seen in
    let shown = ap (λ (l : LaneSeen). l.shown) c.look_ahead.ensures.seen in
    let size = ap (λ (l : LaneSeen). l.size_from) c.look_ahead.ensures.seen in
    let fits : c.look_ahead.result + held_from x.number (state_of (p g d)) ≤ (v g x.ends).size_from = omega (arith, held, out, shown, size, c.look_ahead.ensures.room) in
    let is = peer-is M g.met.P.PeerLane.none (v g) d.book d.endpoints d.requests d.table d.peers.items c.self.invariant c.args.place x (there g c) in
    subst (λ (h : Holding g.row.P.Denot). c.look_ahead.result + held_from (peer_at h.parts c.args.place).number (state_of h.parts) ≤ (peer_at h.parts c.args.place).ends.size_from) c.self.view_is
    (subst (λ (y : Peer LaneSeen). c.look_ahead.result + held_from y.number (state_of (p g d)) ≤ y.ends.size_from) (sym is) fits)
