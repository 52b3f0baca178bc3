use Rattle.std.proofs.Common.{◌≡◌, ◌++◌, length, map}
use Rattle.report_text.specs.Texts.{lines_told}
use Rattle.view_cli.specs.RefusedCalls.{place_of, refused_in}
use Rattle.view_cli.proofs.refused.add_refused.Given as goal

abbrev pub decreases-loop-line : goal.decreases-loop-line
decreases-loop-line l = length l.rest

abbrev pub invariant-loop-line : goal.invariant-loop-line
invariant-loop-line l = map place_of l.calls.items ++ refused_in l.domain.journal.domain (lines_told l.rest) ≡ map place_of l.initial.calls.items ++ refused_in l.domain.journal.domain (lines_told l.domain.journal.text.now)
