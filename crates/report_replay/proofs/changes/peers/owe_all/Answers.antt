use Rattle.std.proofs.Common.{rules, arith}
use Rattle.report_replay.proofs.Changed.{map-step}
use Rattle.report_replay.proofs.changes.peers.owe_all.Goals as goal

pub loop-peer-preserved : goal.loop-peer-preserved
loop-peer-preserved c = search (rules, arith, map-step)
