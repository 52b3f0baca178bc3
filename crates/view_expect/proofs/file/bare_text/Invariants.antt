use Rattle.std.proofs.Common.{◌≡◌, ◌++◌, ◌+◌, ◌≤◌, length}
use Rattle.std.specs.List.{flat_map}
use Rattle.report_text.specs.TextLines.{lines_in}
use Rattle.view_expect.specs.Expected.{bare, bare_line}
use Rattle.view_expect.proofs.file.bare_text.Given as goal

abbrev pub decreases-loop-rest : goal.decreases-loop-rest
decreases-loop-rest l = length l.rest

abbrev pub invariant-loop-rest : goal.invariant-loop-rest
invariant-loop-rest l = record {
  text : l.text.items ++ flat_map bare_line (lines_in l.rest) ≡ bare l.file;
  short : length l.text.items + length l.rest ≤ length l.file;
}
