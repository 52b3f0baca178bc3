use Rattle.std.proofs.Common.{◌≡◌, ◌≤◌, ◌+◌, min, drop}
use Rattle.std.specs.Prelude.{sum_by}
use Rattle.report_replay.specs.Replayed.{greatest}
use Rattle.report_replay.proofs.Counted.{request_weight}
use Rattle.report_replay.proofs.held.held_in.Given as goal

abbrev pub invariant-loop-request : goal.invariant-loop-request
invariant-loop-request l = record {
  all : min greatest (l.count + sum_by (request_weight l.peer) (drop l.request-index l.requests)) ≡ min greatest (sum_by (request_weight l.peer) l.requests);
  small : l.count ≤ greatest;
}
