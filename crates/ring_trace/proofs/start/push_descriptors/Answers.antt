use Rattle.board_model.specs.RingImage.{descriptor, start_values}
use Rattle.ring_trace.proofs.Pieces.{appended}
use Rattle.ring_trace.proofs.start.push_descriptors.Goals as goal

pub loop-i-preserved : goal.loop-i-preserved
loop-i-preserved c = appended (descriptor (start_values c.args.size c.args.queue)) c.loop-i.i c.args.out.now.items c.loop-i.out.items c.push_descriptor.new.out.items c.loop-i.invariant c.in_ok-push_descriptor.ensures
