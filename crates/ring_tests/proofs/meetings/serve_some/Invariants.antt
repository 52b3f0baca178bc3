use Rattle.std.proofs.Common.{◌≡◌}
use Rattle.ring_tests.proofs.meetings.serve_some.Given as goal

abbrev pub invariant-loop : goal.invariant-loop
invariant-loop l = l.device.ring ≡ l.on.ring
