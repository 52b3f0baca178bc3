use Rattle.std.proofs.Common.{refl, []}
use Rattle.lane_tests.proofs.plain.pair.Pair.sends.Goals as goal

pub invariant_of-self : goal.invariant_of-self
invariant_of-self c = let lane = c.args.self.now in record {
  lane = c.ends_stay_one_lane.ensures lane.send c.sends.new.end lane.recv lane.recv c.sends.ensures.0 [] lane.lane c.sends.ensures.1 refl;
}
