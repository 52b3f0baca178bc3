use Rattle.std.proofs.Common.{◌≡◌, ap, sym, refl, subst, ◌∙◌}
use Rattle.std.specs.Prelude.{option_to_list}
use Rattle.board_model.specs.Answer.{here}
use Rattle.board_model.specs.CallChanges.{at_live, best_item, success_returned}
use Rattle.board_model.specs.Choice.{best, oldest}
use Rattle.board_model.specs.State.{live_at, queue_at}
use Rattle.report_replay.specs.PlainCalls.{plain_call}
use Rattle.report_replay.proofs.Returned.{best-queued, first-oldest, oldest-queued}
use Rattle.report_replay.proofs.state.State.returned.Goals as goal

pub returns-in-Receive : goal.returns-in-Receive
returns-in-Receive c =
    let s = c.args.self.now in
    let node = c.args.node in
    c.slice_of.ensures
    ∙ ap option_to_list (c.best_of.ensures ∙ ap (best (λ i. i.priority)) (c.queue_at-queue.ensures ∙ ap (queue_at s) c.here.ensures))
    ∙ best-queued s (here node (plain_call c.args.call.now))
    ∙ subst (λ k. at_live (live_at s (here node (plain_call k))) (λ e. option_to_list (best_item e)) ≡ success_returned s node (plain_call k)) (sym c.in-Receive.is) refl

pub returns-in-ReceiveScalar : goal.returns-in-ReceiveScalar
returns-in-ReceiveScalar c =
    let s = c.args.self.now in
    let node = c.args.node in
    c.slice_of-in-ReceiveScalar.ensures
    ∙ ap option_to_list (first-oldest c.first.result c.queue_at-queue.result.now c.first.ensures.value ∙ ap oldest (c.queue_at-queue.ensures ∙ ap (queue_at s) c.here.ensures))
    ∙ oldest-queued s (here node (plain_call c.args.call.now))
    ∙ subst (λ k. at_live (live_at s (here node (plain_call k))) (λ e. option_to_list (oldest e.queue)) ≡ success_returned s node (plain_call k)) (sym c.in-ReceiveScalar.is) refl
