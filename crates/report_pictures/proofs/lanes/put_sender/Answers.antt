use Rattle.report_pictures.proofs.LaneLists.{no_lane, put_lane_then}
use Rattle.report_pictures.proofs.lanes.put_sender.Goals as goal

pub loop-receiver-init : goal.loop-receiver-init
loop-receiver-init g c = no_lane g.K.Sink _ _ _

pub loop-receiver-preserved : goal.loop-receiver-preserved
loop-receiver-preserved g c = put_lane_then g.K.Sink _ _ _ _ _ _ c.loop-receiver.invariant c.put_lane-next.ensures
