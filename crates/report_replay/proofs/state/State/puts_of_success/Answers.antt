use Rattle.std.proofs.Common.{Some, ap, sym, ◌∙◌}
use Rattle.board_model.specs.Answer.{success_puts}
use Rattle.report_replay.specs.PlainCalls.{plain_call}
use Rattle.report_replay.specs.Puts.{headed}
use Rattle.report_replay.proofs.FramesFor.{send_headed}
use Rattle.report_replay.proofs.state.State.puts_of_success.Goals as goal

pub returns-in-Send : goal.returns-in-Send
returns-in-Send c =
    ap (λ n. Some (c.in-Send.to.domain, n)) c.frames_needed.ensures
    ∙ sym (send_headed c.args.self.now c.args.node c.in-Send.port c.in-Send.to c.in-Send.priority c.in-Send.bytes.now)
    ∙ ap (λ k. headed (success_puts c.args.self.now c.args.node (plain_call k))) (sym c.in-Send.is)
