use Rattle.std.proofs.Common.{◌≡◌, ◌++◌}
use Rattle.board_model.specs.RingImage.{for_each, descriptor, start_values}
use Rattle.ring_trace.proofs.start.push_descriptors.Given as goal

abbrev pub invariant-loop-i : goal.invariant-loop-i
invariant-loop-i l = l.out.items ≡ l.initial.out.items ++ for_each (descriptor (start_values l.size l.queue)) l.i
