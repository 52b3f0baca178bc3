use Rattle.std.proofs.Common.{[]}
use Rattle.lane_end.specs.AnySender as any
use Rattle.lane_tests.proofs.rings.pair.Pair.receives.Goals as goal

pub invariant_of-self : goal.invariant_of-self
invariant_of-self c = let i = c.self.inside in c.ends_stay_of_one_ring.ensures i.send i.send i.recv c.receives.new.end [] c.receives.ensures.0 c.self.invariant (any.AnySends-none i.send) c.receives.ensures.1
