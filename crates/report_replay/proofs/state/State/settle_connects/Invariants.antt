use Rattle.std.proofs.Common.{◌≡◌, ◌++◌, map, take, drop}
use Rattle.board_model.specs.Change.{all_done, connects_on}
use Rattle.report_replay.specs.Views.{settling}
use Rattle.report_replay.proofs.state.State.settle_connects.Given as goal

abbrev pub invariant-loop-request : goal.invariant-loop-request
invariant-loop-request l = l.request-items ≡ map (all_done (connects_on l.number) (settling l.rejected)) (take l.request-index l.initial.request-items) ++ drop l.request-index l.initial.request-items
