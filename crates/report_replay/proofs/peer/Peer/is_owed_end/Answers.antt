use Rattle.std.proofs.Common.{◌∙◌, ap, sym}
use Rattle.std.specs.List.{list_any}
use Rattle.board_model.specs.State.{Peer, tells_gone}
use Rattle.report_replay.specs.Views.{announcement_of}
use Rattle.report_replay.proofs.Changed.{any-map}
use Rattle.report_replay.proofs.peer.Peer.is_owed_end.Goals as goal

pub returns : goal.returns
returns c =
    c.tells_end.ensures
    ∙ ap (list_any (λ a. tells_gone c.args.address (announcement_of a))) c.deref.ensures.value
    ∙ sym (any-map (tells_gone c.args.address) announcement_of c.self.inside.announcements.items)
    ∙ ap (λ (p : Peer). list_any (tells_gone c.args.address) p.announcements) c.self.view_is
