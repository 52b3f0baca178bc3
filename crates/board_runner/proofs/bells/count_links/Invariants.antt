use Rattle.std.proofs.Common.{◌≤◌}
use Rattle.board_runner.proofs.bells.count_links.Given as goal

abbrev pub invariant-loop-peer : goal.invariant-loop-peer
invariant-loop-peer l = l.count ≤ l.peer
