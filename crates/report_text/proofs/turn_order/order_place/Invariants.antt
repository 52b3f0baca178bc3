use Rattle.std.proofs.Common.{◌≡◌, ◌+◌, None, length}
use Rattle.report_text.specs.TextLines.{moved}
use Rattle.report_text.specs.TurnOrder.{order_place}
use Rattle.report_text.proofs.turn_order.order_place.Given as goal

abbrev pub decreases-loop-rest : goal.decreases-loop-rest
decreases-loop-rest l = length l.rest

abbrev pub invariant-loop-rest : goal.invariant-loop-rest
invariant-loop-rest l = record {
  value : moved l.place (order_place l.left l.due l.last l.rest) ≡ order_place l.own 0 None l.lines;
  within : l.place + length l.rest ≡ length l.lines;
}
