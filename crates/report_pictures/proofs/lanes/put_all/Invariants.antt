use Rattle.picture_text.specs.Markup.{PutsElements}
use Rattle.report_pictures.specs.Lanes.{lines_of_lanes}
use Rattle.report_pictures.proofs.lanes.put_all.Given as goal

abbrev pub invariant-loop-sender : goal.invariant-loop-sender
invariant-loop-sender g l = PutsElements g.K.Sink l.initial.out l.out (lines_of_lanes l.subject.events.now l.sender)
