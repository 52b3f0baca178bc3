use Rattle.lane_end.proofs.AnyLaneLemmas.{ends-stay}
use Rattle.lane_end.proofs.meeting.ends_stay_of_one_ring.Goals as goal

pub returns : goal.returns
returns c = ends-stay
