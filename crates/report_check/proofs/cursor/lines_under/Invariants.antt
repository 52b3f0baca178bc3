use Rattle.std.proofs.Common.{◌≡◌, ◌≤◌, ◌+◌, ℕ, List, length}
use Rattle.report_text.specs.JournalOrder.{puts_claimed}
use Rattle.report_text.specs.SpelledTexts.{IsSpelledText}
use Rattle.report_text.specs.Texts.{lines_told}
use Rattle.report_text.specs.TurnOrder.{puts_last, under_lines}
use Rattle.report_check.proofs.cursor.lines_under.Given as goal

abbrev pub decreases-loop-line : goal.decreases-loop-line
decreases-loop-line l = length l.rest.text.now

abbrev pub invariant-loop-line : goal.invariant-loop-line
invariant-loop-line l = record {
  lines : l.lines + length (under_lines (lines_told l.rest.text.now)) ≡ length (under_lines (lines_told l.text.text.now));
  puts : puts_last l.puts (under_lines (lines_told l.rest.text.now)) ≡ puts_last 0 (under_lines (lines_told l.text.text.now));
  claimed : (puts : List ℕ) → puts_claimed puts (lines_told l.rest.text.now) ≡ puts_claimed puts (lines_told l.text.text.now);
  spelled : IsSpelledText l.rest;
  few : l.puts ≤ l.lines;
  within : l.lines + length l.rest.text.now ≤ length l.text.text.now;
}
