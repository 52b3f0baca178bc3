use Rattle.std.proofs.Common.{◌≡◌, ◌++◌, map, take}
use Rattle.board_model.specs.Change.{held_as}
use Rattle.report_replay.proofs.held.push_held.Given as goal

abbrev pub invariant-loop-name : goal.invariant-loop-name
invariant-loop-name l = l.held.items ≡ l.initial.held.items ++ map (held_as l.peer) (take l.name-index l.names)
