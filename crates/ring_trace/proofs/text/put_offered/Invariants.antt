use Rattle.mc_base.specs.Text.{hex_digits}
use Rattle.outer_io.specs.Puts.{Puts}
use Rattle.board_model.specs.RingImage.{for_each}
use Rattle.ring_trace.specs.WordImage.{word_entry}
use Rattle.ring_trace.proofs.text.put_offered.Given as goal

abbrev pub invariant-loop-p : goal.invariant-loop-p
invariant-loop-p g l = Puts g.K.Sink l.initial.out l.out (hex_digits (for_each (word_entry l.size l.words) l.p))
