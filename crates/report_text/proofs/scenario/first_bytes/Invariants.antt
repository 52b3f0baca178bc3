use Rattle.std.proofs.Common.{◌≡◌, ◌+◌, ◌≤◌, length, take}
use Rattle.report_text.specs.TextLines.{lines_in}
use Rattle.report_text.specs.ScenarioPart.{text_of}
use Rattle.report_text.proofs.scenario.first_bytes.Given as goal

abbrev pub decreases-loop-line : goal.decreases-loop-line
decreases-loop-line l = length l.rest

abbrev pub invariant-loop-line : goal.invariant-loop-line
invariant-loop-line l = record {
  bytes : l.bytes + length (text_of (take l.left (lines_in l.rest))) ≡ length (text_of (take l.fn.lines (lines_in l.text)));
  within : l.bytes + length l.rest ≤ length l.text;
}
