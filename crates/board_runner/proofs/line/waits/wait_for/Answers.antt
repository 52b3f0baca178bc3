use Rattle.std.proofs.Common.{arith, ap, length}
use Rattle.board_runner.proofs.WaitLemmas.{some-named}
use Rattle.board_runner.proofs.line.waits.wait_for.Goals as goal

pub wait_any-requires-clause-some : goal.wait_any-requires-clause-some
wait_any-requires-clause-some c =
    let some = some-named 9000 c.args.station.now.ids c.args.line.now.call c.requires.waits c.requires.asks in
    omega (arith, some, ap length c.ids_of-ids.ensures)
