use Rattle.std.proofs.Common.{◌≡◌}
use Rattle.ring_tests.proofs.meetings.rounds_with_meetings.Given as goal

abbrev pub invariant-loop-done : goal.invariant-loop-done
invariant-loop-done l = record { driver : l.driver.ring ≡ l.on.ring; device : l.device.ring ≡ l.on.ring }
