use Rattle.board_model.specs.Deeds.{looks_back}
use Rattle.report_events.proofs.EndsKept.{ends_after}
use Rattle.report_events.proofs.replay.Replay.look_back.Goals as goal

pub returns : goal.returns
returns c = ends_after _ _ (looks_back _ _) c.look_back-back.ensures.state c.requires
