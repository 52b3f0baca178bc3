use Rattle.std.proofs.Common.{[]}
use Rattle.lane_end.specs.AnyReceiver as any
use Rattle.lane_tests.proofs.rings.pair.Pair.sends.Goals as goal

pub invariant_of-self : goal.invariant_of-self
invariant_of-self c = let i = c.self.inside in c.ends_stay_of_one_ring.ensures i.send c.sends.new.end i.recv i.recv c.sends.ensures.0 [] c.self.invariant c.sends.ensures.1 (any.AnyReceives-none i.recv)
