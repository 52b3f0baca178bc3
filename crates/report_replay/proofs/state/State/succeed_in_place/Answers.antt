use Rattle.std.proofs.Common.{[], ◌∷◌, length, ap, sym, ◌∙◌}
use Rattle.board_model.specs.Answer.{here}
use Rattle.board_model.specs.CallChanges.{at_end, success_changes}
use Rattle.board_model.specs.Change.{buffers_used, changed, changed_all}
use Rattle.board_model.specs.State.{live_at}
use Rattle.report_replay.specs.PlainCalls.{plain_call}
use Rattle.mc_base.specs.Pieces.{frames_of_size}
use Rattle.report_replay.proofs.FramesFor.{packet_changes, send_changes}
use Rattle.report_replay.proofs.state.State.succeed_in_place.Goals as goal

pub returns-in-Send : goal.returns-in-Send
returns-in-Send c =
    let s = c.args.self.now in
    let node = c.args.node in
    c.use_buffers.ensures
    ∙ ap (λ n. changed s (buffers_used c.in-Send.to.domain n)) c.frames_needed.ensures
    ∙ send_changes s node c.in-Send.port c.in-Send.to c.in-Send.priority c.in-Send.bytes.now
    ∙ ap (λ k. changed_all s (success_changes s node (plain_call k))) (sym c.in-Send.is)

pub returns-in-SendPacket : goal.returns-in-SendPacket
returns-in-SendPacket c =
    let s = c.args.self.now in
    let node = c.args.node in
    let bytes = c.in-SendPacket.bytes.now in
    c.send_over_channel.ensures
    ∙ ap (λ n. changed_all s (at_end (live_at s c.here-here.result) (λ e d. buffers_used d.peer n ∷ []))) c.frames_needed-in-SendPacket.ensures
    ∙ ap (λ h. changed_all s (at_end (live_at s h) (λ e d. buffers_used d.peer (frames_of_size (length bytes)) ∷ []))) (c.here-here.ensures ∙ ap (λ k. here node (plain_call k)) c.in-SendPacket.is)
    ∙ packet_changes s node c.in-SendPacket.port bytes
    ∙ ap (λ k. changed_all s (success_changes s node (plain_call k))) (sym c.in-SendPacket.is)
