use Rattle.board_model.proofs.OrderRuns.{deletes_tell_dropped}
use Rattle.board_model.proofs.laws.deletes_tell_what_was_dropped.Goals as goal

pub returns : goal.returns
returns c = deletes_tell_dropped
