use Rattle.board_model.proofs.OrderRuns.{tests_tell_taken}
use Rattle.board_model.proofs.laws.tests_tell_what_was_taken.Goals as goal

pub returns : goal.returns
returns c = tests_tell_taken
