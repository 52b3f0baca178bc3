use Rattle.board_model.specs.RingImage.{image_length}
use Rattle.ring_trace.specs.Writes.{LiesWithin}
use Rattle.ring_trace.proofs.Within.{one_more_within}
use Rattle.ring_trace.proofs.writes.push_offer.Goals as goal

pub returns-clause-within : goal.returns-clause-within
returns-clause-within c all =
    let P = LiesWithin (image_length c.args.size) in
    let first = one_more_within P _ c.push.new.self.items c.write_at.result all c.in_ok-push.ensures.items c.write_at.ensures.within in
    let second = one_more_within P _ c.push-2.new.self.items c.write_at-2.result first c.in_ok-push-2.ensures.items c.write_at-2.ensures.within in
    one_more_within P _ c.push-3.new.self.items c.write_at-3.result second c.in_ok-push-3.ensures.items c.write_at-3.ensures.within
