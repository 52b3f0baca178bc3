use Rattle.std.proofs.Common.{◌≡◌, length}
use Rattle.report_text.specs.Texts.{last_of}
use Rattle.report_text.proofs.journal.last_line.Given as goal

abbrev pub decreases-loop-rest : goal.decreases-loop-rest
decreases-loop-rest l = length l.rest

abbrev pub invariant-loop-rest : goal.invariant-loop-rest
invariant-loop-rest l = last_of l.last l.rest ≡ last_of l.fn.before l.lines
