use Rattle.std.proofs.Common.{ap, arith}
use Rattle.std.proofs.lemmas.List.{drop_all}
use Rattle.std.specs.Prelude.{sum_by}
use Rattle.report_replay.proofs.Counted.{queue_weight, queues-weighed}
use Rattle.report_replay.proofs.held.queued_in.Goals as goal

pub returns : goal.returns
returns c =
    let none = ap (sum_by (queue_weight c.args.peer)) (drop_all c.loop-endpoint.endpoint-index c.args.endpoints.now c.loop-endpoint-test.false) in
    omega (arith, none, queues-weighed c.args.peer c.args.endpoints.now, c.loop-endpoint.invariant.all, c.loop-endpoint.invariant.small)
