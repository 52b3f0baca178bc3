use Rattle.std.proofs.Common.{◌≤◌, max, length}
use Rattle.report_text.specs.Texts.{longest_line}
use Rattle.report_text.proofs.pass.longest_line.Given as goal

abbrev pub decreases-loop-line : goal.decreases-loop-line
decreases-loop-line l = length l.rest

abbrev pub invariant-loop-line : goal.invariant-loop-line
invariant-loop-line l = longest_line l.text ≤ max l.longest (longest_line l.rest)
