use Rattle.lane_images.proofs.Laws.{backs-are-later}
use Rattle.lane_images.proofs.backs_are_later.Goals as goal

pub returns : goal.returns
returns c = backs-are-later
