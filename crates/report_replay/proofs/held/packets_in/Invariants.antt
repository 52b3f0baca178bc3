use Rattle.std.proofs.Common.{◌≡◌, ◌≤◌, ◌+◌, min, drop}
use Rattle.std.specs.Prelude.{sum_by}
use Rattle.report_replay.specs.Replayed.{greatest}
use Rattle.report_replay.proofs.Counted.{packet_weight}
use Rattle.report_replay.proofs.held.packets_in.Given as goal

abbrev pub invariant-loop-packet : goal.invariant-loop-packet
invariant-loop-packet l = record {
  all : min greatest (l.count + sum_by (packet_weight l.peer) (drop l.packet-index l.packets)) ≡ min greatest (sum_by (packet_weight l.peer) l.packets);
  small : l.count ≤ greatest;
}
