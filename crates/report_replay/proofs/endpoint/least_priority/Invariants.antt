use Rattle.std.proofs.Common.{◌≡◌, drop}
use Rattle.report_replay.proofs.Removed.{least_from}
use Rattle.report_replay.proofs.endpoint.least_priority.Given as goal

abbrev pub invariant-loop-item : goal.invariant-loop-item
invariant-loop-item l = least_from (λ i. i.priority) l.least (drop l.item-index l.queue) ≡ least_from (λ i. i.priority) l.initial.least l.queue
