use Rattle.std.proofs.Common.{◌≡◌, take}
use Rattle.call_logs.specs.CallsBoard.{calls_of_client}
use Rattle.call_actor.specs.CallsBoards.{board_of}
use Rattle.call_actor.proofs.run.lines_of.Given as goal

abbrev pub invariant-loop-call : goal.invariant-loop-call
invariant-loop-call l = l.lines.items ≡ calls_of_client (board_of 0 0 (take l.call-index l.calls)) l.client
