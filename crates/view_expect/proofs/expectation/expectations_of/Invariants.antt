use Rattle.std.proofs.Common.{◌≡◌, ◌++◌, length, map}
use Rattle.report_text.specs.TextLines.{lines_in}
use Rattle.view_expect.specs.Expected.{expected_from, expected_in, told}
use Rattle.view_expect.proofs.expectation.expectations_of.Given as goal

abbrev pub decreases-loop-rest : goal.decreases-loop-rest
decreases-loop-rest l = length l.rest

abbrev pub invariant-loop-rest : goal.invariant-loop-rest
invariant-loop-rest l = map told l.expectations.items ++ expected_from l.at l.calls (lines_in l.rest) ≡ expected_in l.file
