use Rattle.report_pictures.proofs.LaneLists.{no_sender, put_sender_then}
use Rattle.report_pictures.proofs.lanes.put_all.Goals as goal

pub loop-sender-init : goal.loop-sender-init
loop-sender-init g c = no_sender g.K.Sink _ _

pub loop-sender-preserved : goal.loop-sender-preserved
loop-sender-preserved g c = put_sender_then g.K.Sink _ _ _ _ _ c.loop-sender.invariant c.put_sender-top.ensures
