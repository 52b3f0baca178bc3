use Rattle.std.proofs.Common.{◌≡◌, ◌≤◌, ◌+◌, min, drop}
use Rattle.std.specs.Prelude.{sum_by}
use Rattle.report_replay.specs.Replayed.{greatest}
use Rattle.report_replay.proofs.Counted.{item_weight}
use Rattle.report_replay.proofs.item.items_from.Given as goal

abbrev pub invariant-loop-item : goal.invariant-loop-item
invariant-loop-item l = record {
  all : min greatest (l.count + sum_by (item_weight l.peer) (drop l.item-index l.items)) ≡ min greatest (sum_by (item_weight l.peer) l.items);
  small : l.count ≤ greatest;
}
