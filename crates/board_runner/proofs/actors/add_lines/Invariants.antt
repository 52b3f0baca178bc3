use Rattle.std.proofs.Common.{◌≡◌, ◌++◌}
use Rattle.board_runner.proofs.actors.add_lines.Given as goal

abbrev pub invariant-loop-line : goal.invariant-loop-line
invariant-loop-line l = l.calls ≡ l.fn.calls ++ l.yielded
