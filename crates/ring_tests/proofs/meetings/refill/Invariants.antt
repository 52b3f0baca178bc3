use Rattle.std.proofs.Common.{◌≡◌}
use Rattle.ring_tests.proofs.meetings.refill.Given as goal

abbrev pub invariant-loop : goal.invariant-loop
invariant-loop l = l.driver.ring ≡ l.on.ring
