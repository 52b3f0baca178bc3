use Rattle.report_events.proofs.EndsKept.{ends_opened}
use Rattle.report_events.proofs.replay.Replay.open.Goals as goal

pub returns : goal.returns
returns c = ends_opened _ _ _ _ c.in_ok-state.ensures
