use Rattle.board_model.proofs.PartLaw.{no-part-is-lost}
use Rattle.board_model.proofs.laws.no_part_is_lost.Goals as goal

pub returns : goal.returns
returns c = no-part-is-lost
