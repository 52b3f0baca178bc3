use Rattle.std.proofs.Common.{◌≤◌, ◌<◌, length}
use Rattle.report_text.specs.Texts.{longest_line}
use Rattle.report_view.proofs.group.next_group.Given as goal

abbrev pub decreases-loop-line : goal.decreases-loop-line
decreases-loop-line l = length l.rest

abbrev pub invariant-loop-line : goal.invariant-loop-line
invariant-loop-line l = record {
  shorter : length l.rest < length l.text;
  fits : longest_line l.rest ≤ longest_line l.text;
}
