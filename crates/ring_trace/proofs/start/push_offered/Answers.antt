use Rattle.board_model.specs.RingImage.{offered_entry, start_values}
use Rattle.ring_trace.proofs.Pieces.{appended}
use Rattle.ring_trace.proofs.start.push_offered.Goals as goal

pub loop-place-preserved : goal.loop-place-preserved
loop-place-preserved c = appended (offered_entry (start_values c.args.size 0)) c.loop-place._place c.args.out.now.items c.loop-place.out.items c.extend_from_slice.new.self.items c.loop-place.invariant c.in_ok-extend_from_slice.ensures.items
