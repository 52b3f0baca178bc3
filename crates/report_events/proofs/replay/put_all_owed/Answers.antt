use Rattle.std.proofs.Common.{[]}
use Rattle.board_model.specs.Deeds.{puts_owed}
use Rattle.report_events.proofs.EndsKept.{ends_after}
use Rattle.report_events.proofs.replay.put_all_owed.Goals as goal

pub loop-peer-preserved : goal.loop-peer-preserved
loop-peer-preserved c = ends_after _ _ (puts_owed _ []) (c.put_owed.ensures []) c.loop-peer.invariant
