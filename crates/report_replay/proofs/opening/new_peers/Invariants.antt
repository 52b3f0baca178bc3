use Rattle.std.proofs.Common.{◌≡◌, map, take}
use Rattle.board_model.specs.State.{new_peer}
use Rattle.report_replay.specs.Replayed.{neighbour_of}
use Rattle.report_replay.proofs.opening.new_peers.Given as goal

abbrev pub invariant-loop-number : goal.invariant-loop-number
invariant-loop-number l = l.all.items ≡ map new_peer (map neighbour_of (take l.number-index l.peers))
