use Rattle.std.proofs.Common.{◌≡◌}
use Rattle.std.specs.List.{All}
use Rattle.std.specs.VecDeque.{deque_capacity}
use Rattle.split_ring.specs.Ends.{HasWidth}
use Rattle.lane_end.specs.Priming.{Fetches}
use Rattle.lane_end.proofs.priming.fetch_all.Given as goal

abbrev pub invariant-loop : goal.invariant-loop
invariant-loop l = record {
  fetched : Fetches l.fn.device l.device l.fn.buffers.items l.buffers.items l.counter;
  wide : All (HasWidth l.device) l.buffers.items;
  room : deque_capacity l.buffers ≡ deque_capacity l.fn.buffers;
}
