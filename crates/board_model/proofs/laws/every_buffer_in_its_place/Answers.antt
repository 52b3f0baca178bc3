use Rattle.board_model.proofs.PlaceCounts.{every_lane}
use Rattle.board_model.proofs.laws.every_buffer_in_its_place.Goals as goal

pub returns : goal.returns
returns c = every_lane
