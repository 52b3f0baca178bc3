use Rattle.std.proofs.Common.{take}
use Rattle.picture_text.specs.Markup.{PutsElements}
use Rattle.report_pictures.specs.Lanes.{lines_of_lane}
use Rattle.report_pictures.proofs.lanes.put_course.Given as goal

abbrev pub invariant-loop-event : goal.invariant-loop-event
invariant-loop-event g l = PutsElements g.K.Sink l.initial.out l.out (lines_of_lane l.band.lane (take l.event-index l.subject.events.now))
