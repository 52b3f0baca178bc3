use Rattle.std.proofs.Common.{◌≡◌, false, take}
use Rattle.call_report.specs.CallsText.{is_named}
use Rattle.call_report.proofs.lines.has_call_on.Given as goal

abbrev pub invariant-loop-at : goal.invariant-loop-at
invariant-loop-at l = is_named (take l.at l.service.history) l.cell ≡ false
