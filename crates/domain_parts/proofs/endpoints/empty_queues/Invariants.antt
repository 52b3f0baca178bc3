use Rattle.std.proofs.Common.{◌≡◌, length}
use Rattle.std.specs.List.{AllByRecursion}
use Rattle.domain_parts.specs.InTable.{IsSpare}
use Rattle.domain_parts.proofs.endpoints.empty_queues.Given as goal

abbrev pub invariant-loop : goal.invariant-loop
invariant-loop l = record {
  each : AllByRecursion (IsSpare l.room) l.queues.items;
  count : length l.queues.items ≡ l.counter;
}
