use Rattle.report_text.proofs.TurnsDue.{idle-turn}
use Rattle.report_text.proofs.laws.idle_turns_keep.Goals as goal

pub returns : goal.returns
returns c = λ s peers turn. idle-turn s peers turn.allowed
