use Rattle.std.proofs.Common.{◌∷◌, [], ◌++◌, map, ap, ◌∙◌}
use Rattle.std.proofs.lemmas.List.{map-append}
use Rattle.board_model.specs.State.{Peer}
use Rattle.report_replay.specs.Views.{reply_of}
use Rattle.report_replay.proofs.Changed.{peer-set, no-peer}
use Rattle.report_replay.specs.contracts.state.State.{the_view}
use Rattle.report_replay.specs.contracts.peer.Peer.{the_view as peer_view}
use Rattle.report_replay.proofs.state.State.owe_reply.Goals as goal

pub returns-in_default : goal.returns-in_default
returns-in_default c = no-peer c.args.self.now c.args.peer (λ p. record p { replies = p.replies ++ reply_of c.args.reply ∷ [] }) _ c.place_of_peer.ensures c.in_default.is

pub returns : goal.returns
returns c =
    let f = λ (p : Peer). record p { replies = p.replies ++ reply_of c.args.reply ∷ [] } in
    let made = ap (λ rs. record (peer_view c.behind-self.inside) { replies = rs }) (ap (map reply_of) c.in-Ok.ensures.items ∙ map-append reply_of _ _) ∙ ap f c.behind-self.view_is in
    peer-set c.args.self.now c.args.peer f (the_view c.self.inside) c.place_of_peer.result c.in-Some.place _ _ c.self.view_is c.place_of_peer.ensures c.in-Some.is c.index_mut.ensures.value made
