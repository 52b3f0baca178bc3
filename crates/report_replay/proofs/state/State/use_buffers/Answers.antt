use Rattle.std.proofs.Common.{◌-◌, ap, ◌∙◌}
use Rattle.board_model.specs.State.{Peer}
use Rattle.report_replay.proofs.Changed.{peer-set, no-peer}
use Rattle.report_replay.specs.contracts.state.State.{the_view}
use Rattle.report_replay.specs.contracts.peer.Peer.{the_view as peer_view}
use Rattle.report_replay.proofs.state.State.use_buffers.Goals as goal

pub returns-in-Some : goal.returns-in-Some
returns-in-Some c =
    let f = λ (p : Peer). record p { free = p.free - c.args.count } in
    let made = ap (λ n. record (peer_view c.peer.inside) { free = n }) (c.saturating_sub.ensures ∙ ap (λ n. n - c.args.count) c.from.ensures) ∙ ap f c.peer.view_is in
    peer-set c.args.self.now c.args.peer f (the_view c.self.inside) c.place_of_peer.result c.in-Some.place _ _ c.self.view_is c.place_of_peer.ensures c.in-Some.is c.index_mut-peer.ensures.value made

pub returns-in_default : goal.returns-in_default
returns-in_default c = no-peer c.args.self.now c.args.peer (λ p. record p { free = p.free - c.args.count }) _ c.place_of_peer.ensures c.in_default.is
