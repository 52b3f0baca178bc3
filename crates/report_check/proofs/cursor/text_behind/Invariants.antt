use Rattle.std.proofs.Common.{◌≡◌, ◌≤◌, ◌+◌, ◌-◌, drop, length}
use Rattle.report_text.specs.SpelledTexts.{IsSpelledText}
use Rattle.report_text.specs.TextLines.{lines_in}
use Rattle.report_text.specs.Texts.{lines_told}
use Rattle.report_check.proofs.cursor.text_behind.Given as goal

abbrev pub invariant-loop-done : goal.invariant-loop-done
invariant-loop-done l = record {
  lines : drop (l.lines - l._done) (lines_in l.rest.text.now) ≡ drop l.lines (lines_in l.text.text.now);
  told : l._done + length (lines_told l.rest.text.now) ≡ length (lines_told l.text.text.now);
  shorter : l._done + length l.rest.text.now ≤ length l.text.text.now;
  spelled : IsSpelledText l.rest;
}
