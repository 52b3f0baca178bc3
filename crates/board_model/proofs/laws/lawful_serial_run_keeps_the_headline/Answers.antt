use Rattle.board_model.proofs.LawfulRuns.{lawful_headline}
use Rattle.board_model.proofs.laws.lawful_serial_run_keeps_the_headline.Goals as goal

pub returns : goal.returns
returns c = lawful_headline
