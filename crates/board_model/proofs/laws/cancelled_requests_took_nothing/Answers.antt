use Rattle.board_model.proofs.OrderRuns.{cancelled_took_nothing}
use Rattle.board_model.proofs.laws.cancelled_requests_took_nothing.Goals as goal

pub returns : goal.returns
returns c = cancelled_took_nothing
