use Rattle.std.proofs.Common.{◌≡◌, ◌∙◌, ◌<◌, ◌++◌, ◌∷◌, [], List, ℕ, Some, ap, append_assoc, arith, length, refl, subst, sym, take}
use Rattle.std.specs.Prelude.{option_map, slice_get, slice_set}
use Rattle.lane_end.specs.SendMoves.{Sent}
use Rattle.board_model.specs.Deeds.{puts_owed}
use Rattle.board_model.specs.Journal.{Line, put_line}
use Rattle.endpoint_table.specs.Table.{Table, announcement_of, owed_to, owing_to}
use Rattle.board_model.specs.State as state
use Rattle.domain_parts.specs.declared.peer.Peer.{Peer}
use Rattle.domain_parts.specs.declared.holdings.Holdings.TheInside.{Inside}
use Rattle.domain_parts.specs.Beginning.{beginning}
use Rattle.domain_parts.specs.Doing.{Puts}
use Rattle.domain_parts.specs.LaneMoves.{sender}
use Rattle.domain_parts.specs.LaneSeen.{LaneSeen}
use Rattle.domain_parts.specs.Owed.{owed_by, put_lines}
use Rattle.domain_parts.specs.Peers.{peer_in}
use Rattle.domain_parts.specs.Parts.{Holding, Parts, Sound, holding_in, parts_in, peer_at, peer_seen, plain}
use Rattle.domain_parts.specs.Steps.{done, owed_put}
use Rattle.domain_parts.proofs.Owing.{IsOldest, announced-owed, may-put, oldest-frame, set-peer}
use Rattle.domain_parts.proofs.TurnMeaning.{owed_put-is}
use Rattle.domain_parts.proofs.TurnSteps.{owed_put-keeps}
use Rattle.domain_parts.proofs.Turning.{doing-by, peer-is, peers-are, seen-there, there-read}
use Rattle.domain_parts.proofs.holdings.Holdings.put_announcement.Given.{Over}
use Rattle.domain_parts.proofs.holdings.Holdings.put_announcement.Goals as goal

abbrev v : (g : Over) → (g.row.P.Denot → LaneSeen)
v g = g.P.PeerLane.seen

abbrev p : (g : Over) → Inside g.row.P.Denot → Parts
p g d = parts_in (v g) d.book d.endpoints d.requests d.table d.peers.items

there : (g : Over) (c : goal.After-paid g) → slice_get c.self.inside.peers.items c.args.place ≡ Some c.index_mut-peer.result.now
there g c =
    let d = c.self.inside in
    there-read (v g) d.book d.endpoints d.requests d.table d.peers.items c.args.place c.index_mut-peer.result.now (subst (λ (x : Holding g.row.P.Denot). c.args.place < length x.parts.peers) (sym c.self.view_is) c.requires.within) c.index_mut-peer.ensures.value

-- the frame, and the parts after it
abbrev frame : (g : Over) (c : goal.After-paid g) → List ℕ
frame g c = take c.announce-len.result c.announce-len.new.out

after : (g : Over) (c : goal.After-paid g) → parts_in (v g) c.self.inside.book c.self.inside.endpoints c.self.inside.requests c.paid.new.self (slice_set c.self.inside.peers.items c.args.place (record (c.index_mut-peer.result.now) { ends = c.put.new.self })) ≡ done (owed_put c.index_mut-peer.result.now.number (frame g c)) (p g c.self.inside)
after g c =
    let d = c.self.inside in
    let peers = peers-are g.P.PeerLane.Moved g.met.P.PeerLane.none (v g) d.book d.endpoints d.requests d.table d.peers.items c.self.invariant c.args.place c.index_mut-peer.result.now (there g c) c.put.new.self (sender (Sent (frame g c)) ∷ []) c.put.ensures.seen c.put.ensures.moved in
    let table = c.paid.ensures in
    cc

pub invariant_of-self : goal.invariant_of-self
invariant_of-self g c = subst Sound (sym (after g c)) (owed_put-keeps (p g c.self.inside) c.index_mut-peer.result.now.number (frame g c) c.self.invariant)

pub returns-clause-puts : goal.returns-clause-puts
returns-clause-puts g c =
    let d = c.self.inside in
    let M = g.P.PeerLane.Moved in
    let x = c.index_mut-peer.result.now in
    let ns = c.args.ns.now in
    let lines = c.args.journal.now.lines in
    let f = frame g c in
    let ps' = slice_set d.peers.items c.args.place (record x { ends = c.put.new.self }) in
    let new = holding_in (v g) d.book d.endpoints d.requests c.paid.new.self ps' in
    let seen = seen-there M g.met.P.PeerLane.none (v g) d.book d.endpoints d.requests d.table d.peers.items c.self.invariant c.args.place x (there g c) in
    let number = ap (λ (y : Peer LaneSeen). y.number) (peer-is M g.met.P.PeerLane.none (v g) d.book d.endpoints d.requests d.table d.peers.items c.self.invariant c.args.place x (there g c)) in
    let oldest : Some (ns.name.items, ns.addr, ns.create) ≡ option_map (announcement_of d.table.domain) (owed_to d.table x.number) =
    subst (λ (n : ℕ). Some (ns.name.items, ns.addr, ns.create) ≡ option_map (announcement_of d.table.domain) (owed_to d.table n)) number
    (subst (λ (h : Holding g.row.P.Denot). Some (ns.name.items, ns.addr, ns.create) ≡ option_map (announcement_of h.parts.table.domain) (owed_to h.parts.table (peer_at h.parts c.args.place).number)) (sym c.self.view_is) c.requires.oldest) in
    let first : IsOldest d.table.domain (owed_by (owing_to d.table x.number)) f = subst (IsOldest d.table.domain (owed_by (owing_to d.table x.number))) (sym c.announce-len.ensures.frame) (oldest-frame (owing_to d.table x.number) d.table.domain ns.addr ns.name.items ns.create oldest) in
    let some : 0 < length (owed_by (owing_to d.table x.number)) = (let long = ap length first.are in omega (arith, long)) in
    let owed = announced-owed d.table x.number x.replies f first in
    let was = peer-is M g.met.P.PeerLane.none (v g) d.book d.endpoints d.requests d.table d.peers.items c.self.invariant c.args.place x (there g c) in
    let now = set-peer (v g) d.peers.items c.args.place x (record x { ends = c.put.new.self }) (there g c) in
    let told = c.note.ensures.lines ∙ ap (λ (ls : List Line). ls ++ put_line x.number f ∷ []) c.begin_turn.ensures.lines ∙ append_assoc lines (beginning c.args.begun) (put_line x.number f ∷ []) in
    let doing = doing-by M g.met.P.PeerLane.none (v g) d.book d.endpoints d.requests d.table d.peers.items c.self.invariant c.args.place x (there g c) c.put.new.self (sender (Sent f) ∷ []) c.put.ensures.seen c.put.ensures.moved
    (owed_put x.number f ∷ []) (λ k. puts_owed k f ∷ []) new (λ k. refl) (after g c) refl (may-put (p g d) c.self.invariant c.args.place (peer_seen (v g) x) seen f _ owed, tt) (owed_put-is (p g d) c.self.invariant c.args.place (peer_seen (v g) x) seen f some) refl refl in
    subst (λ (h : Holding g.row.P.Denot). (z : List ℕ) × Puts M c.args.place c.args.begun (z ∷ []) h new lines c.note.new.self.lines) c.self.view_is (
      f,
      record {
        owed =
            ap (λ (y : Peer LaneSeen). state.owed_to d.table.domain (peer_in plain [] d.table y)) was
            ∙ owed
            ∙ ap (λ (t : Table). f ∷ state.owed_to t.domain (peer_in plain [] t (peer_seen (v g) (record x { ends = c.put.new.self })))) (sym c.paid.ensures)
            ∙ ap (λ (y : Peer LaneSeen). f ∷ state.owed_to c.paid.new.self.domain (peer_in plain [] c.paid.new.self y)) (sym now);
        doing = doing;
        told = subst (λ (n : ℕ). c.note.new.self.lines ≡ lines ++ put_lines c.args.begun n (f ∷ [])) (sym number) told;
      },
    )
