use Rattle.std.proofs.Common.{ap, length, arith}
use Rattle.board_runner.proofs.WaitLemmas.{some-named}
use Rattle.board_runner.proofs.line.waits.is_settled.Goals as goal

pub settled-requires : goal.settled-requires
settled-requires c =
    let some = some-named 9000 c.args.station.now.ids c.args.line.now.call c.requires.waits c.requires.asks in
    omega (arith, some, ap length c.ids_of-ids.ensures)
