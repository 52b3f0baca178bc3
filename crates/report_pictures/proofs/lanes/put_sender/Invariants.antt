use Rattle.picture_text.specs.Markup.{PutsElements}
use Rattle.report_pictures.specs.Lanes.{lines_of_sender}
use Rattle.report_pictures.proofs.lanes.put_sender.Given as goal

abbrev pub invariant-loop-receiver : goal.invariant-loop-receiver
invariant-loop-receiver g l = PutsElements g.K.Sink l.initial.out l.out (lines_of_sender l.subject.events.now l.sender l.receiver)
