use Rattle.std.proofs.Common.{◌≡◌, length}
use Rattle.report_text.specs.Texts.{lines_behind}
use Rattle.report_view.proofs.journals.pass_journal.Given as goal

abbrev pub decreases-loop-after : goal.decreases-loop-after
decreases-loop-after l = length l.rest

abbrev pub invariant-loop-after : goal.invariant-loop-after
invariant-loop-after l = lines_behind l.rest ≡ lines_behind l.text
