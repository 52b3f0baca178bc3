use Rattle.std.proofs.Common.{◌≤◌, length}
use Rattle.report_text.specs.Texts.{longest_line}
use Rattle.report_sequence.proofs.plan.folds.Given as goal

abbrev pub invariant-loop-event : goal.invariant-loop-event
invariant-loop-event l = longest_line l.subject.report.now ≤ length l.room
