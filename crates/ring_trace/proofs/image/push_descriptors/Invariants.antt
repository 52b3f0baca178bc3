use Rattle.std.proofs.Common.{◌≡◌, ◌++◌}
use Rattle.board_model.specs.RingImage.{for_each}
use Rattle.ring_trace.specs.WordImage.{word_descriptor}
use Rattle.ring_trace.proofs.image.push_descriptors.Given as goal

abbrev pub invariant-loop-i : goal.invariant-loop-i
invariant-loop-i l = l.out.items ≡ l.initial.out.items ++ for_each (word_descriptor l.size l.words) l.i
