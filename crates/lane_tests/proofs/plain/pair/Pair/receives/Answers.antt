use Rattle.std.proofs.Common.{refl, []}
use Rattle.lane_tests.proofs.plain.pair.Pair.receives.Goals as goal

pub invariant_of-self : goal.invariant_of-self
invariant_of-self c = let lane = c.args.self.now in record {
  lane = c.ends_stay_one_lane.ensures lane.send lane.send lane.recv c.receives.new.end [] c.receives.ensures.0 lane.lane refl c.receives.ensures.1;
}
