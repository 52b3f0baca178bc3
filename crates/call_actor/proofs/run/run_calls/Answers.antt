use Rattle.std.proofs.Common.{arith}
use Rattle.call_actor.specs.CallsBoards.{board_of}
use Rattle.call_actor.proofs.CallsRuns.{if-outcome, may-act}
use Rattle.call_actor.proofs.run.run_calls.Goals as goal

pub run_actors-requires-after_bounds : goal.run_actors-requires-after_bounds
run_actors-requires-after_bounds g c κs within =
    may-act (board_of c.args.clients c.args.repeat c.args.calls.now) c.args.size c.in_ok-board.board c.in_ok-actors.actors.items (omega (arith, c.requires.board.few_clients)) c.in_ok-board.ensures.board c.in_ok-board.ensures.bare c.in_ok-board.ensures.lawful c.in_ok-actors.ensures

pub returns : goal.returns
returns g c = if-outcome (board_of c.args.clients c.args.repeat c.args.calls.now) c.args.size c.in_ok-board.board c.in_ok-actors.actors.items c.run_actors.result c.in_ok-board.ensures.board c.in_ok-actors.ensures c.run_actors.ensures
