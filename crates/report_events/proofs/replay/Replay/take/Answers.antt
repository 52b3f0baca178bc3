use Rattle.std.proofs.Common.{None}
use Rattle.board_model.specs.Deeds.{takes}
use Rattle.mc_base.specs.declared.fate.Fate.TheVariants.{Acted}
use Rattle.report_events.proofs.EndsKept.{ends_after}
use Rattle.report_events.proofs.replay.Replay.take.Goals as goal

-- what happens does not hang on the word
pub returns : goal.returns
returns c = ends_after _ _ (takes _ None _ Acted) c.in_ok-_fate.ensures.state c.requires
