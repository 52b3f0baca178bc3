use Rattle.std.proofs.Common.{◌≡◌, ◌++◌}
use Rattle.board_model.specs.RingImage.{for_each}
use Rattle.ring_trace.specs.WordImage.{word_element}
use Rattle.ring_trace.proofs.image.push_used.Given as goal

abbrev pub invariant-loop-p : goal.invariant-loop-p
invariant-loop-p l = l.out.items ≡ l.initial.out.items ++ for_each (word_element l.size l.words) l.p
