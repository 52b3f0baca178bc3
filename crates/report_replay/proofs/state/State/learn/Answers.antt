use Rattle.std.proofs.Common.{◌∙◌, ap, sym}
use Rattle.mc_base.specs.NameMap.{learned}
use Rattle.board_model.specs.State.{Peer, peer_at}
use Rattle.board_model.specs.TakenFrames.{names_of}
use Rattle.report_replay.specs.Replayed.{lacks_room}
use Rattle.report_replay.proofs.Changed.{peer-set, no-peer, known-at, learned-by}
use Rattle.report_replay.specs.contracts.state.State.{the_view}
use Rattle.report_replay.specs.contracts.peer.Peer.{the_view as peer_view}
use Rattle.report_replay.proofs.state.State.learn.Goals as goal

pub returns-in-Some : goal.returns-in-Some
returns-in-Some c =
    let known = names_of (peer_at c.args.self.now c.args.peer) in
    let f = λ (p : Peer). record p { known = learned c.args.name c.args.address known } in
    let same = known-at c.args.self.now c.args.peer (the_view c.self.inside) c.place_of_peer.result c.in-Some.place _ c.behind-self.inside.known c.self.view_is c.place_of_peer.ensures c.in-Some.is c.index_mut.ensures.value (ap (λ (p : Peer). p.known) (sym c.behind-self.view_is)) in
    let room = ap (lacks_room c.args.name) (sym same) ∙ c.requires.room in
    let made = learned-by c.args.name c.args.address c.behind-self.inside.known c.learn.new.self c.learn.result room c.learn.ensures.full.0 c.learn.ensures.learned in
    peer-set c.args.self.now c.args.peer f (the_view c.self.inside) c.place_of_peer.result c.in-Some.place _ _ c.self.view_is c.place_of_peer.ensures c.in-Some.is c.index_mut.ensures.value
    (ap (λ ks. record (peer_view c.behind-self.inside) { known = ks }) (made ∙ ap (learned c.args.name c.args.address) (sym same)) ∙ ap f c.behind-self.view_is)

pub returns-in_default : goal.returns-in_default
returns-in_default c =
    let known = names_of (peer_at c.args.self.now c.args.peer) in
    no-peer c.args.self.now c.args.peer (λ p. record p { known = learned c.args.name c.args.address known }) _ c.place_of_peer.ensures c.in_default.is
