use Rattle.std.proofs.Common.{◌≤◌, length, map, take}
use Rattle.picture_text.specs.Objects.{PutsObjects}
use Rattle.report_text.specs.Texts.{longest_line}
use Rattle.report_pictures.proofs.trace.put_steps.Given as goal

abbrev pub invariant-loop-event : goal.invariant-loop-event
invariant-loop-event g l = record {
  puts : PutsObjects g.K.Sink l.initial.out l.out (map (λ e. e.line) (take l.event-index l.subject.events.now));
  fits : longest_line l.subject.report.now ≤ length l.room;
}
