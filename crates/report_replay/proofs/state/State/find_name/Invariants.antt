use Rattle.std.proofs.Common.{◌≡◌, ◌++◌, map, take, drop}
use Rattle.board_model.specs.State.{has_address}
use Rattle.board_model.specs.Change.{all_done, asks_for}
use Rattle.report_replay.proofs.state.State.find_name.Given as goal

abbrev pub invariant-loop-request : goal.invariant-loop-request
invariant-loop-request l = l.request-items ≡ map (all_done (asks_for l.name) (has_address l.address)) (take l.request-index l.initial.request-items) ++ drop l.request-index l.initial.request-items
