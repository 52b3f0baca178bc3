use Rattle.std.proofs.Common.{◌≡◌}
use Rattle.table_tests.proofs.plain_queues.agree.Given as goal

abbrev pub invariant-loop-pushes : goal.invariant-loop-pushes
invariant-loop-pushes l = l.queue.room ≡ l.fn.room

abbrev pub invariant-loop-call : goal.invariant-loop-call
invariant-loop-call l = l.queue.room ≡ l.fn.room
