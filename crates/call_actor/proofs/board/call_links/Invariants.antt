use Rattle.std.proofs.Common.{◌≡◌, map}
use Rattle.call_service.specs.Served.{rising}
use Rattle.call_actor.specs.CallsBoards.{call_link}
use Rattle.call_actor.proofs.board.call_links.Given as goal

abbrev pub invariant-loop-before : goal.invariant-loop-before
invariant-loop-before l = l.links.items ≡ map (call_link l.size) (rising 1 l.before)
