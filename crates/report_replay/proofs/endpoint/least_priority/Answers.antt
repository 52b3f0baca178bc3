use Rattle.std.proofs.Common.{ap, sym, length, ◌∙◌}
use Rattle.std.proofs.lemmas.Bool.{ltb-true}
use Rattle.report_replay.proofs.Removed.{least_from, least-found}
use Rattle.board_model.specs.State.{Item}
use Rattle.report_replay.proofs.endpoint.least_priority.Goals as goal

pub returns : goal.returns
returns c =
    let first = c.in-Some.ensures.item in
    least-found (λ (i : Item). i.priority) c.args.queue.now c.in-Some.first.now c.loop-item.least c.loop-item.item-index (ltb-true 0 (length c.args.queue.now) (sym first.0)) first.1 c.loop-item-test.false
    (c.loop-item.invariant ∙ ap (λ (x : Item). least_from (λ i. i.priority) x.priority c.args.queue.now) c.first-2.view_is)
