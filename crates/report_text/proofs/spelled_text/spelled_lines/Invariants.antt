use Rattle.std.proofs.Common.{◌≤◌, ◌++◌, List, length}
use Rattle.report_text.specs.SpelledTexts.{AreSpelled}
use Rattle.report_text.specs.declared.spelled_text.SpelledLine.{SpelledLine}
use Rattle.report_text.proofs.spelled_text.spelled_lines.Given as goal

abbrev pub decreases-loop-entry : goal.decreases-loop-entry
decreases-loop-entry l = length l.rest

abbrev pub invariant-loop-entry : goal.invariant-loop-entry
invariant-loop-entry l = record {
  lines : (ls : List SpelledLine) → AreSpelled l.rest ls → AreSpelled l.text (l.lines.items ++ ls);
  shorter : length l.rest ≤ length l.text;
}
