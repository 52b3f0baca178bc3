use Rattle.std.proofs.Common.{◌≡◌, ◌+◌, length}
use Rattle.report_text.specs.TurnOrder.{puts_first}
use Rattle.report_text.proofs.turn_order.puts_first.Given as goal

abbrev pub decreases-loop-rest : goal.decreases-loop-rest
decreases-loop-rest l = length l.rest

abbrev pub invariant-loop-rest : goal.invariant-loop-rest
invariant-loop-rest l = record { value : l.count + puts_first l.rest ≡ puts_first l.lines; all : l.count + length l.rest ≡ length l.lines }
