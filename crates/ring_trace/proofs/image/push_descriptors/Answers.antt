use Rattle.ring_trace.specs.WordImage.{word_descriptor}
use Rattle.ring_trace.proofs.Pieces.{appended}
use Rattle.ring_trace.proofs.image.push_descriptors.Goals as goal

pub loop-i-preserved : goal.loop-i-preserved
loop-i-preserved c = appended (word_descriptor c.args.size c.args.words.now) c.loop-i.i c.args.out.now.items c.loop-i.out.items c.push_descriptor.new.out.items c.loop-i.invariant c.in_ok-push_descriptor.ensures
