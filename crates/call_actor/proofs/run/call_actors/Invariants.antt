use Rattle.call_service.specs.Served.{rising}
use Rattle.call_actor.specs.CallsBoards.{AreNew, board_of}
use Rattle.call_actor.proofs.run.call_actors.Given as goal

abbrev pub invariant-loop-client : goal.invariant-loop-client
invariant-loop-client l = AreNew (board_of l.clients l.repeat l.calls) (rising 0 l.client) l.actors.items
