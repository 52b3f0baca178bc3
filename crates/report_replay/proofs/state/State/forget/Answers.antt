use Rattle.std.proofs.Common.{◌∙◌, ap, sym}
use Rattle.mc_base.specs.NameMap.{forgotten}
use Rattle.board_model.specs.State.{Peer, peer_at}
use Rattle.board_model.specs.TakenFrames.{names_of}
use Rattle.report_replay.proofs.Changed.{peer-set, no-peer, known-at}
use Rattle.report_replay.specs.contracts.state.State.{the_view}
use Rattle.report_replay.specs.contracts.peer.Peer.{the_view as peer_view}
use Rattle.report_replay.proofs.state.State.forget.Goals as goal

pub returns-in-Some : goal.returns-in-Some
returns-in-Some c =
    let f = λ (p : Peer). record p { known = forgotten c.args.name (names_of (peer_at c.args.self.now c.args.peer)) } in
    let same = known-at c.args.self.now c.args.peer (the_view c.self.inside) c.place_of_peer.result c.in-Some.place _ c.behind-self.inside.known c.self.view_is c.place_of_peer.ensures c.in-Some.is c.index_mut.ensures.value (ap (λ (p : Peer). p.known) (sym c.behind-self.view_is)) in
    peer-set c.args.self.now c.args.peer f (the_view c.self.inside) c.place_of_peer.result c.in-Some.place _ _ c.self.view_is c.place_of_peer.ensures c.in-Some.is c.index_mut.ensures.value
    (ap (λ ks. record (peer_view c.behind-self.inside) { known = ks }) (c.forget.ensures.forgotten ∙ ap (forgotten c.args.name) (sym same)) ∙ ap f c.behind-self.view_is)

pub returns-in_default : goal.returns-in_default
returns-in_default c =
    no-peer c.args.self.now c.args.peer (λ p. record p { known = forgotten c.args.name (names_of (peer_at c.args.self.now c.args.peer)) }) _ c.place_of_peer.ensures c.in_default.is
