use Rattle.std.proofs.Common.{◌≡◌, List, ◌++◌}
use Rattle.std.specs.VecDeque.{deque_len, deque_capacity}
use Rattle.mc_base.specs.Stored.{Stored}
use Rattle.lane_end.specs.Priming.{Offers}
use Rattle.lane_end.proofs.priming.offer_all.Given as goal

abbrev pub decreases-loop-buffer : goal.decreases-loop-buffer
decreases-loop-buffer l = deque_len l.buffers

abbrev pub invariant-loop-buffer : goal.invariant-loop-buffer
invariant-loop-buffer l = record {
  offered : (done : List Stored) × (l.fn.buffers.items ≡ done ++ l.buffers.items) × Offers l.fn.driver l.driver done l.buffers.items;
  room : deque_capacity l.buffers ≡ deque_capacity l.fn.buffers;
}
