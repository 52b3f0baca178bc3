use Rattle.std.proofs.Common.{sym, rules, arith}
use Rattle.call_actor.proofs.Flags.{marked_not}
use Rattle.call_actor.proofs.desk.all_marked.Goals as goal

pub returns-then-not-left-from : goal.returns-then-not-left-from
returns-then-not-left-from c = sym (marked_not c.args.left.now c.loop-client.client c.args.clients (omega arith) (omega (arith, c.loop-client-test.true)) (search rules))
