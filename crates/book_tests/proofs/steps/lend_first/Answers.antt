use Rattle.std.proofs.Common.{refl, arith}
use Rattle.book_tests.proofs.steps.lend_first.Goals as goal

pub lend-requires : goal.lend-requires
lend-requires c = c.loop-buffer.invariant (record { peer = c.args.peer; buffer = c.loop-buffer.buffer }) refl (omega arith) c.loop-buffer-test.true
