use Rattle.board_model.proofs.WholeBoard.{serial_run_is_whole}
use Rattle.board_model.proofs.laws.linked_serial_run_is_a_board_run.Goals as goal

pub returns : goal.returns
returns c = serial_run_is_whole
