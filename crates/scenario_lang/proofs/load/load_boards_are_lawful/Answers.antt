use Rattle.scenario_lang.proofs.LoadBoards.{load-lawful}
use Rattle.scenario_lang.proofs.load.load_boards_are_lawful.Goals as goal

pub returns : goal.returns
returns c = load-lawful
