use Rattle.std.proofs.Common.{find, sym, ap, ◌∙◌}
use Rattle.board_model.specs.State.{DomainState, is_numbered, peer_of}
use Rattle.board_model.proofs.MessageLists.{get-position}
use Rattle.report_replay.proofs.state.State.peer_numbered.Goals as goal

pub returns : goal.returns
returns c =
    c.find_numbered.ensures ∙ ap (find (is_numbered c.args.number)) c.deref.ensures.value ∙ sym (get-position (is_numbered c.args.number) c.self.inside.peers.items) ∙ ap (λ (s : DomainState). peer_of s c.args.number) c.self.view_is
