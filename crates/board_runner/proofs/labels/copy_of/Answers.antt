use Rattle.board_runner.proofs.HeldLemmas.{copied}
use Rattle.board_runner.proofs.labels.copy_of.Goals as goal

pub returns-in-Ok : goal.returns-in-Ok
returns-in-Ok c = copied c.args.label.now.items c.in-Ok.copy.items c.in-Ok.ensures.cases
