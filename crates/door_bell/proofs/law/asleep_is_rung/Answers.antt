use Rattle.door_bell.proofs.SleeperSteps.{asleep-rung}
use Rattle.door_bell.proofs.law.asleep_is_rung.Goals as goal

pub returns : goal.returns
returns c = asleep-rung
