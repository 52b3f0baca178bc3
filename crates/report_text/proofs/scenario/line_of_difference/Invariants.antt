use Rattle.std.proofs.Common.{◌≡◌, ◌+◌, ◌≤◌, length}
use Rattle.report_text.specs.TextLines.{first_other, lines_in, moved}
use Rattle.report_text.proofs.scenario.line_of_difference.Given as goal

abbrev pub decreases-loop-line : goal.decreases-loop-line
decreases-loop-line l = length l.front

abbrev pub invariant-loop-line : goal.invariant-loop-line
invariant-loop-line l = record {
  value : moved l.place (first_other (lines_in l.front) (lines_in l.back)) ≡ first_other (lines_in l.one) (lines_in l.two);
  within : l.place + length l.front ≤ length l.one;
}
