use Rattle.std.proofs.Common.{◌≤◌, length}
use Rattle.report_text.specs.Texts.{longest_line}
use Rattle.report_sequence.proofs.plan.add_rows.Given as goal

abbrev pub decreases-loop-rest : goal.decreases-loop-rest
decreases-loop-rest l = length l.rest

abbrev pub invariant-loop-rest : goal.invariant-loop-rest
invariant-loop-rest l = longest_line l.subject.report.now ≤ length l.room
