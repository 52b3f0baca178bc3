use Rattle.std.proofs.Common.{subst, ℕ}
use Rattle.shared_words.specs.declared.view.Role.TheVariants as role
use Rattle.lane_end.specs.AnySender.{AnySends}
use Rattle.lane_end.specs.AnyReceiver.{AnyReceives}
use Rattle.lane_end.specs.RingSender.{RingSender}
use Rattle.lane_end.specs.RingReceiver.{RingReceiver}
use Rattle.lane_end.specs.LaneRun.{HaveRun, IsLaneRun}
use Rattle.lane_end.specs.declared.any.AnySend.TheVariants as send
use Rattle.lane_end.specs.declared.any.AnyRecv.TheVariants as recv
use Rattle.lane_tests.proofs.finished.finishes_from_device.Goals as goal

pub returns : goal.returns
returns c =
    let ring = c.in_ok-ring.ring in let sends = c.plays.ensures.sends in let receives = c.plays.ensures.receives in
    let run : HaveRun role.Device ring sends.0 receives.0 c.into_half-send.result c.into_half-recv.result = record {
      sent = record {
        end = c.plays.new.send;
        moved = subst (λ (s : RingSender). AnySends (send.Device s) sends.0 c.plays.new.send) c.in-Ok.ensures.sender sends.1;
        leaves = c.into_half-send.ensures;
      };
      received = record {
        end = c.plays.new.recv;
        moved = subst (λ (r : RingReceiver). AnyReceives (recv.Driver r) receives.0 c.plays.new.recv) c.in-Ok.ensures.receiver receives.1;
        leaves = c.into_half-recv.ensures;
      };
    } in (sends.0, receives.0, subst (λ (size : ℕ). IsLaneRun role.Device size sends.0 receives.0 c.finish_lane.result) c.in_ok-ring.ensures.ring.1 (c.finish_lane.ensures.run role.Device sends.0 receives.0 run))
