use Rattle.board_model.proofs.RepliedRuns.{tests_tell_said}
use Rattle.board_model.proofs.laws.tests_tell_what_was_said.Goals as goal

pub returns : goal.returns
returns c = tests_tell_said
