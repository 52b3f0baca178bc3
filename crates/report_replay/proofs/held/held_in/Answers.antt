use Rattle.std.proofs.Common.{ap, arith}
use Rattle.std.proofs.lemmas.List.{drop_all}
use Rattle.std.specs.Prelude.{sum_by}
use Rattle.report_replay.proofs.Counted.{request_weight, requests-weighed}
use Rattle.report_replay.proofs.held.held_in.Goals as goal

pub returns : goal.returns
returns c =
    let none = ap (sum_by (request_weight c.args.peer)) (drop_all c.loop-request.request-index c.args.requests.now c.loop-request-test.false) in
    omega (arith, none, requests-weighed c.args.peer c.args.requests.now, c.loop-request.invariant.all, c.loop-request.invariant.small)
