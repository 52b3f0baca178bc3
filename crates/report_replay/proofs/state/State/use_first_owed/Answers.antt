use Rattle.std.proofs.Common.{◌≡◌, ap, ◌∙◌}
use Rattle.board_model.specs.State.{DomainState}
use Rattle.board_model.specs.Change.{at_peer, first_put}
use Rattle.report_replay.proofs.Changed.{peer-set, no-peer, ends-kept}
use Rattle.report_replay.specs.contracts.state.State.{the_view}
use Rattle.report_replay.proofs.state.State.use_first_owed.Goals as goal
use Rattle.report_replay.proofs.state.State.use_first_owed.Goals.{in-Some, in_default}

pub returns : goal.returns
returns c =
    let now : DomainState = c.args.self.now in
    let put : the_view c.match-place_of_peer.self-inside ≡ record now { peers = at_peer c.args.peer first_put now.peers } =
    elim c.match-place_of_peer.branch [
      | in-Some w ↦ ap the_view w.self-inside-is ∙ peer-set now c.args.peer first_put (the_view c.self.inside) c.place_of_peer.result w.in-Some.place _ _ c.self.view_is c.place_of_peer.ensures w.in-Some.is w.index_mut.ensures.value w.put_first.ensures
      | in_default w ↦ ap the_view w.self-inside-is ∙ c.self.view_is ∙ no-peer now c.args.peer first_put _ c.place_of_peer.ensures w.in_default.is
    ] in
    ends-kept (the_view c.match-place_of_peer.self-inside) _ _ c.deref.result.now c.keep_owed_ends.ensures c.deref.ensures.value put
