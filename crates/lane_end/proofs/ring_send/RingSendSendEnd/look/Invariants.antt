use Rattle.std.specs.List.{All}
use Rattle.std.specs.VecDeque.{deque_capacity}
use Rattle.split_ring.specs.Ends.{HasWidth}
use Rattle.lane_end.specs.KeptRing.{sender_with}
use Rattle.lane_end.specs.LooksBack.{LooksBack}
use Rattle.lane_end.proofs.ring_send.RingSendSendEnd.look.Given as goal

abbrev pub invariant-loop : goal.invariant-loop
invariant-loop g l = record {
  back : LooksBack l.self-inside.on.now (deque_capacity l.self-inside.free) l.shown l.counter l.fn.self (sender_with g.H.RingHalf.role (g.H.RingHalf.end l.self-inside.half) l.self-inside.free.items);
  wide : All (HasWidth (g.H.RingHalf.end l.self-inside.half)) l.self-inside.free.items;
}
