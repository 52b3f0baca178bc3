use Rattle.board_model.proofs.OrderRuns.{receives_best}
use Rattle.board_model.proofs.laws.receives_take_the_best.Goals as goal

pub returns : goal.returns
returns c = receives_best
