use Rattle.std.proofs.Common.{◌≡◌, ◌++◌, length}
use Rattle.report_text.specs.JournalRead.{told_texts}
use Rattle.report_text.specs.TextLines.{lines_in}
use Rattle.view_expect.specs.Answers.{call_texts, calls_in}
use Rattle.view_expect.proofs.answers.call_lines.Given as goal

abbrev pub decreases-loop-line : goal.decreases-loop-line
decreases-loop-line l = length l.rest

abbrev pub invariant-loop-line : goal.invariant-loop-line
invariant-loop-line l = call_texts l.lines.items ++ calls_in (told_texts (lines_in l.rest)) ≡ calls_in (told_texts (lines_in l.text))
