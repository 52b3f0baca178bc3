use Rattle.board_model.specs.Deeds.{looks_ahead}
use Rattle.report_events.proofs.EndsKept.{ends_after}
use Rattle.report_events.proofs.replay.Replay.look_ahead.Goals as goal

pub returns : goal.returns
returns c = ends_after _ _ (looks_ahead _ _) c.look_ahead-shown.ensures.state c.requires
