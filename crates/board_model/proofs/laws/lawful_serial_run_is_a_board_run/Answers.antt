use Rattle.board_model.proofs.LawfulRuns.{lawful_run}
use Rattle.board_model.proofs.laws.lawful_serial_run_is_a_board_run.Goals as goal

pub returns : goal.returns
returns c = lawful_run
