use Rattle.lane_end.proofs.LaneLemmas.{stay-one-lane}
use Rattle.lane_end.proofs.plain.ends_stay_one_lane.Goals as goal

pub returns : goal.returns
returns c = stay-one-lane
