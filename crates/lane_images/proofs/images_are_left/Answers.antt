use Rattle.lane_images.proofs.Laws.{images-are-left}
use Rattle.lane_images.proofs.images_are_left.Goals as goal

pub returns : goal.returns
returns c = images-are-left
