use Rattle.std.proofs.Common.{◌≤◌, length}
use Rattle.report_text.specs.Texts.{longest_line}
use Rattle.view_text.proofs.survey.add_domain.Given as goal

abbrev pub invariant-loop-entry : goal.invariant-loop-entry
invariant-loop-entry l = longest_line l.rest ≤ length l.room

abbrev pub decreases-loop-entry : goal.decreases-loop-entry
decreases-loop-entry l = length l.rest
