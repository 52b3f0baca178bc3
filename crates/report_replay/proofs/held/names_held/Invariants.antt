use Rattle.std.proofs.Common.{◌≡◌, ◌++◌, map, drop}
use Rattle.std.specs.Prelude.{filter}
use Rattle.board_model.specs.State.{holds_from}
use Rattle.report_replay.proofs.held.names_held.Given as goal

abbrev pub invariant-loop-frame : goal.invariant-loop-frame
invariant-loop-frame l = l.names.items ++ map (λ h. h.name) (filter (holds_from l.peer) (drop l.frame-index l.held)) ≡ map (λ h. h.name) (filter (holds_from l.peer) l.held)
