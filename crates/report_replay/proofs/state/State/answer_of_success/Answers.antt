use Rattle.std.proofs.Common.{◌∙◌, ap, sym}
use Rattle.board_model.specs.State.{queue_at}
use Rattle.board_model.specs.Choice.{best}
use Rattle.board_model.specs.Answer.{given, here, success}
use Rattle.report_replay.specs.PlainCalls.{plain_call}
use Rattle.report_replay.proofs.state.State.answer_of_success.Goals as goal

pub returns-in-Receive : goal.returns-in-Receive
returns-in-Receive c =
    let s = c.args.self.now in
    let node = c.args.node in
    let queued = c.queue_at-queue.ensures ∙ ap (queue_at s) (c.here.ensures ∙ ap (λ k. here node (plain_call k)) c.in-Receive.is) in
    c.given.ensures
    ∙ ap (given c.in-Receive.max) (c.best_of.ensures ∙ ap (best (λ i. i.priority)) queued)
    ∙ ap (λ k. success s node (plain_call k)) (sym c.in-Receive.is)
