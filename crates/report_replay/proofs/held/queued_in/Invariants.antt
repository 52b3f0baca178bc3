use Rattle.std.proofs.Common.{◌≡◌, ◌≤◌, ◌+◌, min, drop}
use Rattle.std.specs.Prelude.{sum_by}
use Rattle.report_replay.specs.Replayed.{greatest}
use Rattle.report_replay.proofs.Counted.{queue_weight}
use Rattle.report_replay.proofs.held.queued_in.Given as goal

abbrev pub invariant-loop-endpoint : goal.invariant-loop-endpoint
invariant-loop-endpoint l = record {
  all : min greatest (l.count + sum_by (queue_weight l.peer) (drop l.endpoint-index l.endpoints)) ≡ min greatest (sum_by (queue_weight l.peer) l.endpoints);
  small : l.count ≤ greatest;
}
