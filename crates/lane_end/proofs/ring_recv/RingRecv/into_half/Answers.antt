use Rattle.std.proofs.Common.{subst}
use Rattle.lane_end.specs.Halves.{OutAreHeld}
use Rattle.lane_end.specs.KeptRing.{receiver_with}
use Rattle.lane_end.proofs.ReceiverLemmas.{out-count}
use Rattle.lane_end.proofs.ring_recv.RingRecv.into_half.Goals as goal

pub returns-clause-out : goal.returns-clause-out
returns-clause-out g c =
    let i = c.self.inside in let r = receiver_with g.H.RingHalf.role (g.H.RingHalf.end i.half) i.shown in
    subst OutAreHeld c.self.view_is (out-count i.on.now r c.self.invariant)
