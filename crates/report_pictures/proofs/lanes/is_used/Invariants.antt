use Rattle.std.proofs.Common.{◌≡◌, [], take}
use Rattle.report_pictures.specs.Lanes.{lines_of_lane}
use Rattle.report_pictures.proofs.lanes.is_used.Given as goal

abbrev pub invariant-loop-event : goal.invariant-loop-event
invariant-loop-event l = lines_of_lane l.lane (take l.event-index l.events) ≡ []
