use Rattle.std.proofs.Common.{◌≡◌, ◌≤◌}
use Rattle.std.specs.VecDeque.{deque_len, deque_capacity}
use Rattle.lane_end.specs.Held.{numbers_of}
use Rattle.lane_end.specs.Numbers.{all_numbers}
use Rattle.lane_end.proofs.free_list.all_buffers.Given as goal

abbrev pub invariant-loop-number : goal.invariant-loop-number
invariant-loop-number l = record {
  numbers : numbers_of l.buffers.items ≡ all_numbers l.number;
  len : deque_len l.buffers ≡ l.number;
  room : l.size ≤ deque_capacity l.buffers;
}
