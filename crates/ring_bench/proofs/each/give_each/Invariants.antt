use Rattle.std.proofs.Common.{◌≡◌}
use Rattle.ring_bench.proofs.each.give_each.Given as goal

abbrev pub invariant-loop : goal.invariant-loop
invariant-loop l = l.device.ring ≡ l.on.ring
