use Rattle.std.proofs.Common.{◌≡◌, ◌+◌}
use Rattle.ring_bench.proofs.lane.serve.Given as goal

-- what is shown and not taken is what the loop has left
abbrev pub invariant-loop : goal.invariant-loop
invariant-loop g l = g.R.RecvEnd.shown l.recv + l.counter ≡ l.shown
