use Rattle.board_model.proofs.OrderRuns.{available_tell_queued}
use Rattle.board_model.proofs.laws.available_tells_what_is_queued.Goals as goal

pub returns : goal.returns
returns c = available_tell_queued
