use Rattle.std.proofs.Common.{◌≤◌, length, take}
use Rattle.picture_text.specs.Markup.{PutsElements}
use Rattle.report_text.specs.Texts.{longest_line}
use Rattle.report_sequence.specs.Shown.{lines_drawn}
use Rattle.report_sequence.proofs.sequence.put_events.Given as goal

abbrev pub invariant-loop-event : goal.invariant-loop-event
invariant-loop-event g l = record {
  puts : PutsElements g.K.Sink l.initial.out l.out (lines_drawn (take l.event-index l.sheet.plan.now.events.now));
  fits : longest_line l.sheet.subject.report.now ≤ length l.room;
}
