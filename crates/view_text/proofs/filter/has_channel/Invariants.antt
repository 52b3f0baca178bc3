use Rattle.std.proofs.Common.{◌≤◌, length}
use Rattle.report_text.specs.Texts.{longest_line}
use Rattle.view_text.proofs.filter.has_channel.Given as goal

abbrev pub invariant-loop-done : goal.invariant-loop-done
invariant-loop-done l = longest_line l.rest ≤ length l.room
