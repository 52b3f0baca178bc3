use Rattle.outer_io.proofs.Writing.{puts_nothing}
use Rattle.ring_trace.specs.WordImage.{word_entry}
use Rattle.ring_trace.proofs.HexPieces.{hex_more}
use Rattle.ring_trace.proofs.text.put_offered.Goals as goal

pub loop-p-init : goal.loop-p-init
loop-p-init g c = puts_nothing g.K.Sink c.args.out.now

pub loop-p-preserved : goal.loop-p-preserved
loop-p-preserved g c = hex_more g.K.Sink _ _ _ (word_entry c.args.size c.args.words.now) c.loop-p.p c.loop-p.invariant c.put_word.ensures
