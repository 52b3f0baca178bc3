use Rattle.std.proofs.Common.{◌≡◌, ◌∙◌, ◌<◌, ◌++◌, ◌∷◌, [], List, ℕ, zero, suc, None, Some, ap, append_assoc, length, refl, subst, sym, take}
use Rattle.std.specs.Prelude.{slice_get, slice_set}
use Rattle.lane_end.specs.SendMoves.{Sent}
use Rattle.board_model.specs.Deeds.{puts_owed}
use Rattle.board_model.specs.Journal.{Line, put_line}
use Rattle.endpoint_table.specs.Table.{owed_to, owing_to}
use Rattle.board_model.specs.State as state
use Rattle.domain_parts.specs.declared.peer.Peer.{Peer}
use Rattle.domain_parts.specs.declared.holdings.Holdings.TheInside.{Inside}
use Rattle.domain_parts.specs.Beginning.{beginning}
use Rattle.domain_parts.specs.Doing.{Puts}
use Rattle.domain_parts.specs.LaneMoves.{sender}
use Rattle.domain_parts.specs.LaneSeen.{LaneSeen, after_move}
use Rattle.domain_parts.specs.Owed.{owed_by, put_lines}
use Rattle.domain_parts.specs.Peers.{peer_in}
use Rattle.domain_parts.specs.Parts.{Holding, Parts, Sound, holding_in, parts_in, peer_at, peer_seen, peers_seen, plain}
use Rattle.domain_parts.specs.Steps.{done, reply_put, with_reply_put}
use Rattle.domain_parts.proofs.Owing.{may-put, none-owed, replied-owed, set-peer}
use Rattle.domain_parts.specs.AllMoved.{ends_of}
use Rattle.domain_parts.specs.declared.replies.Reply.{Reply}
use Rattle.domain_parts.proofs.ChangedPeers.{set-changed}
use Rattle.domain_parts.proofs.Stepping.{seen-set}
use Rattle.domain_parts.proofs.TurnMeaning.{reply_put-is}
use Rattle.domain_parts.proofs.TurnSteps.{reply_put-keeps}
use Rattle.domain_parts.proofs.Turning.{doing-by, peer-is, seen-there, there-read}
use Rattle.domain_parts.proofs.holdings.Holdings.put_reply.Given.{Over}
use Rattle.domain_parts.proofs.holdings.Holdings.put_reply.Goals as goal

abbrev v : (g : Over) → (g.row.P.Denot → LaneSeen)
v g = g.P.PeerLane.seen

abbrev p : (g : Over) → Inside g.row.P.Denot → Parts
p g d = parts_in (v g) d.book d.endpoints d.requests d.table d.peers.items

there : (g : Over) (c : goal.After-self-1 g) → slice_get c.self.inside.peers.items c.args.place ≡ Some c.index_mut-peer.result.now
there g c =
    let d = c.self.inside in
    there-read (v g) d.book d.endpoints d.requests d.table d.peers.items c.args.place c.index_mut-peer.result.now (subst (λ (x : Holding g.row.P.Denot). c.args.place < length x.parts.peers) (sym c.self.view_is) c.requires.within) c.index_mut-peer.ensures.value

-- the frame, and the parts after it
abbrev frame : (g : Over) (c : goal.After-self-1 g) → List ℕ
frame g c = take c.write_reply-len.result c.write_reply-len.new.out

abbrev set : (g : Over) (c : goal.After-self-1 g) → Peer g.row.P.Denot
set g c = record (c.index_mut-peer.result.now) { ends = c.put.new.self; replies = c.remove_first.new.self }

after : (g : Over) (c : goal.After-self-1 g) → parts_in (v g) c.self.inside.book c.self.inside.endpoints c.self.inside.requests c.self.inside.table (slice_set c.self.inside.peers.items c.args.place (set g c)) ≡ done (reply_put c.index_mut-peer.result.now.number (frame g c)) (p g c.self.inside)
after g c =
    let d = c.self.inside in
    let x = c.index_mut-peer.result.now in
    let y = peer_seen (v g) x in
    let seen = seen-there g.P.PeerLane.Moved g.met.P.PeerLane.none (v g) d.book d.endpoints d.requests d.table d.peers.items c.self.invariant c.args.place x (there g c) in
    ap (λ (ps : List (Peer LaneSeen)). record (p g d) { peers = ps })
    (seen-set (v g) d.peers.items c.args.place (set g c)
    ∙ ap (λ (l : LaneSeen). slice_set (peers_seen (v g) d.peers.items) c.args.place (record y { ends = l; replies = c.remove_first.new.self })) c.put.ensures.seen
    ∙ ap (λ (rs : List Reply). slice_set (peers_seen (v g) d.peers.items) c.args.place (record y { ends = after_move (sender (Sent (frame g c))) y.ends; replies = rs })) c.remove_first.ensures
    ∙ set-changed x.number (with_reply_put (frame g c)) (peers_seen (v g) d.peers.items) c.args.place y c.self.invariant.peers.rising seen refl)

pub invariant_of-self : goal.invariant_of-self
invariant_of-self g c = subst Sound (sym (after g c)) (reply_put-keeps (p g c.self.inside) c.index_mut-peer.result.now.number (frame g c) c.self.invariant)

same_ends : {L : Type 0} (ps : List (Peer L)) (i : ℕ) (x : Peer L) (e : L) (rs : List Reply) → ends_of (slice_set ps i (record x { ends = e; replies = rs })) ≡ ends_of (slice_set ps i (record x { ends = e }))
same_ends [] i x e rs = refl
same_ends (z ∷ ps) zero x e rs = refl
same_ends {L} (z ∷ ps) (suc i) x e rs = ap (λ (es : List L). z.ends ∷ es) (same_ends ps i x e rs)

pub returns-clause-puts : goal.returns-clause-puts
returns-clause-puts g c =
    let d = c.self.inside in
    let M = g.P.PeerLane.Moved in
    let x = c.index_mut-peer.result.now in
    let lines = c.args.journal.now.lines in
    let f = frame g c in
    let ps' = slice_set d.peers.items c.args.place (set g c) in
    let new = holding_in (v g) d.book d.endpoints d.requests d.table ps' in
    let seen = seen-there M g.met.P.PeerLane.none (v g) d.book d.endpoints d.requests d.table d.peers.items c.self.invariant c.args.place x (there g c) in
    let was = peer-is M g.met.P.PeerLane.none (v g) d.book d.endpoints d.requests d.table d.peers.items c.self.invariant c.args.place x (there g c) in
    let now = set-peer (v g) d.peers.items c.args.place x (set g c) (there g c) in
    let number = ap (λ (y : Peer LaneSeen). y.number) was in
    let owed_nothing : None ≡ owed_to d.table x.number =
    subst (λ (n : ℕ). None ≡ owed_to d.table n) number
    (subst (λ (h : Holding g.row.P.Denot). None ≡ owed_to h.parts.table (peer_at h.parts c.args.place).number) (sym c.self.view_is) c.requires.none) in
    let none = none-owed (owing_to d.table x.number) owed_nothing in
    let first : Some c.args.reply ≡ slice_get x.replies 0 =
    subst (λ (y : Peer LaneSeen). Some c.args.reply ≡ slice_get y.replies 0) was
    (subst (λ (h : Holding g.row.P.Denot). Some c.args.reply ≡ slice_get (peer_at h.parts c.args.place).replies 0) (sym c.self.view_is) c.requires.oldest) in
    let owed = replied-owed d.table.domain (owed_by (owing_to d.table x.number)) x.replies c.args.reply f none first c.write_reply-len.ensures.frame in
    let told = c.note.ensures.lines ∙ ap (λ (ls : List Line). ls ++ put_line x.number f ∷ []) c.begin_turn.ensures.lines ∙ append_assoc lines (beginning c.args.begun) (put_line x.number f ∷ []) in
    let doing = doing-by M g.met.P.PeerLane.none (v g) d.book d.endpoints d.requests d.table d.peers.items c.self.invariant c.args.place x (there g c) c.put.new.self (sender (Sent f) ∷ []) c.put.ensures.seen c.put.ensures.moved
    (reply_put x.number f ∷ []) (λ k. puts_owed k f ∷ []) new (λ k. refl) (after g c) (same_ends d.peers.items c.args.place x c.put.new.self c.remove_first.new.self) (may-put (p g d) c.self.invariant c.args.place (peer_seen (v g) x) seen f _ owed, tt) (reply_put-is (p g d) c.self.invariant c.args.place (peer_seen (v g) x) seen f none) refl refl in
    subst (λ (h : Holding g.row.P.Denot). (z : List ℕ) × Puts M c.args.place c.args.begun (z ∷ []) h new lines c.note.new.self.lines) c.self.view_is (
      f,
      record {
        owed =
            ap (λ (y : Peer LaneSeen). state.owed_to d.table.domain (peer_in plain [] d.table y)) was
            ∙ owed
            ∙ ap (λ (rs : List Reply). f ∷ state.owed_to d.table.domain (peer_in plain [] d.table (record (peer_seen (v g) x) { replies = rs }))) (sym c.remove_first.ensures)
            ∙ ap (λ (y : Peer LaneSeen). f ∷ state.owed_to d.table.domain (peer_in plain [] d.table y)) (sym now);
        doing = doing;
        told = subst (λ (n : ℕ). c.note.new.self.lines ≡ lines ++ put_lines c.args.begun n (f ∷ [])) (sym number) told;
      },
    )
