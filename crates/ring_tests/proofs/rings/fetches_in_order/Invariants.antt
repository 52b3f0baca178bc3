use Rattle.std.proofs.Common.{◌≡◌}
use Rattle.ring_tests.proofs.rings.fetches_in_order.Given as goal

abbrev pub invariant-loop : goal.invariant-loop
invariant-loop l = l.device.ring ≡ l.on.ring
