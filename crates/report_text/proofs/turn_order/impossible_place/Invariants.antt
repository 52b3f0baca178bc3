use Rattle.std.proofs.Common.{◌≡◌, ◌+◌, length}
use Rattle.report_text.specs.TextLines.{moved}
use Rattle.report_text.specs.TurnOrder.{impossible_place}
use Rattle.report_text.proofs.turn_order.impossible_place.Given as goal

abbrev pub decreases-loop-rest : goal.decreases-loop-rest
decreases-loop-rest l = length l.rest

abbrev pub invariant-loop-rest : goal.invariant-loop-rest
invariant-loop-rest l = record {
  value : moved l.place (impossible_place l.peers l.rest) ≡ impossible_place l.peers l.lines;
  within : l.place + length l.rest ≡ length l.lines;
}
