use Rattle.std.proofs.Common.{[], ◌∷◌, refl}
use Rattle.lane_end.specs.SendMoves.{Sent}
use Rattle.domain_core_tests.proofs.tests.frames.Feed.put.Goals as goal

pub invariant_of-self : goal.invariant_of-self
invariant_of-self c =
    let feed = c.args.self.now in
    record {
      size = feed.size;
      lane = c.ends_stay_one_lane.ensures feed.send c.put.new.self feed.recv feed.recv (Sent c.args.frame.now ∷ []) [] feed.lane c.put.ensures.moved refl;
      none_shown = feed.none_shown;
      none_out = feed.none_out;
    }
