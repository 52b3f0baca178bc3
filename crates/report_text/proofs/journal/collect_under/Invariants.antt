use Rattle.std.proofs.Common.{◌≡◌, ◌++◌, ◌+◌, ◌≤◌, true, length}
use Rattle.std.specs.List.{list_all}
use Rattle.report_text.specs.TurnOrder.{is_under}
use Rattle.report_text.specs.Texts.{lines_told, lines_behind, longest_line}
use Rattle.report_text.proofs.journal.collect_under.Given as goal

abbrev pub decreases-loop-line : goal.decreases-loop-line
decreases-loop-line l = length l.rest

abbrev pub invariant-loop-line : goal.invariant-loop-line
invariant-loop-line l = record {
  lines : lines_told l.text ≡ l.lines.items ++ lines_told l.rest;
  under : list_all is_under l.lines.items ≡ true;
  shorter : length l.lines.items + length l.rest ≤ length l.text;
  fits : longest_line l.rest ≤ longest_line l.text;
  behind : lines_behind l.rest ≡ lines_behind l.text;
}
