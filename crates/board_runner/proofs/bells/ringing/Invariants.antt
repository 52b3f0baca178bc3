use Rattle.std.proofs.Common.{◌≡◌}
use Rattle.board_runner.proofs.bells.ringing.Given as goal

abbrev pub invariant-loop-wire : goal.invariant-loop-wire
invariant-loop-wire l = l.ringing.items ≡ l.yielded
