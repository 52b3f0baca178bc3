use Rattle.mc_base.specs.Text.{hex_digits}
use Rattle.outer_io.specs.Puts.{Puts}
use Rattle.board_model.specs.RingImage.{for_each}
use Rattle.ring_trace.specs.WordImage.{word_descriptor}
use Rattle.ring_trace.proofs.text.put_descriptors.Given as goal

abbrev pub invariant-loop-i : goal.invariant-loop-i
invariant-loop-i g l = Puts g.K.Sink l.initial.out l.out (hex_digits (for_each (word_descriptor l.size l.words) l.i))
