use Rattle.ring_trace.specs.WordImage.{word_element}
use Rattle.ring_trace.proofs.Pieces.{appended}
use Rattle.ring_trace.proofs.image.push_used.Goals as goal

pub loop-p-preserved : goal.loop-p-preserved
loop-p-preserved c = appended (word_element c.args.size c.args.words.now) c.loop-p.p c.args.out.now.items c.loop-p.out.items c.push_element.new.out.items c.loop-p.invariant c.in_ok-push_element.ensures
