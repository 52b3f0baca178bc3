use Rattle.lane_end.proofs.FinishLemmas.{halves-stay}
use Rattle.lane_end.proofs.finishing.halves_stay_of_one_ring.Goals as goal

pub returns : goal.returns
returns c = halves-stay
