use Rattle.std.proofs.Common.{ap, refl, length}
use Rattle.lane_end.specs.ReceiveMoves.{Looked}
use Rattle.lane_end.specs.KeptLoop.{loop_with}
use Rattle.lane_end.proofs.SoundLemmas.{loop-receives-sound, loop-apart}
use Rattle.lane_end.proofs.loop_lane.LoopLaneRecvEnd.look.Goals as goal

pub returns-clause-apart : goal.returns-clause-apart
returns-clause-apart c =
    let old = loop_with c.self.inside.waiting c.self.inside.inbox in
    let new = loop_with c.self.inside.waiting c.look.new.self in
    loop-apart new (loop-receives-sound old new (Looked (length c.self.inside.inbox.came)) refl (ap (loop_with c.self.inside.waiting) c.look.ensures.all) c.self.invariant.sound)
