use Rattle.outer_io.proofs.Writing.{puts_nothing}
use Rattle.ring_trace.specs.WordImage.{word_descriptor}
use Rattle.ring_trace.proofs.HexPieces.{hex_more}
use Rattle.ring_trace.proofs.text.put_descriptors.Goals as goal

pub loop-i-init : goal.loop-i-init
loop-i-init g c = puts_nothing g.K.Sink c.args.out.now

pub loop-i-preserved : goal.loop-i-preserved
loop-i-preserved g c = hex_more g.K.Sink _ _ _ (word_descriptor c.args.size c.args.words.now) c.loop-i.i c.loop-i.invariant c.put_descriptor.ensures
