use Rattle.std.proofs.Common.{◌≡◌}
use Rattle.ring_bench.proofs.two.drive.Given as goal

abbrev pub invariant-loop : goal.invariant-loop
invariant-loop l = l.driver.ring ≡ l.on.ring
