use Rattle.std.proofs.Common.{◌≡◌, ℕ, ◌+◌, ◌*◌, ◌^◌, ◌≤◌, sum_by, take}
use Rattle.event_order.specs.Causes.{gained, lost}
use Rattle.event_order.proofs.causes.first_unbacked.Given as goal

abbrev pub invariant-loop-event : goal.invariant-loop-event
invariant-loop-event l =
    (l.place ≡ l.event-index)
    × (l.left ≤ l.event-index * 2 ^ 32)
    × (l.left + sum_by (lost l.cause l.lane) (take l.event-index l.events) ≡ sum_by (gained l.cause l.lane) (take l.event-index l.events))
    × ((k : ℕ) → k ≤ l.event-index → sum_by (lost l.cause l.lane) (take k l.events) ≤ sum_by (gained l.cause l.lane) (take k l.events))
