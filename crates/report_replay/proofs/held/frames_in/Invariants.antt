use Rattle.std.proofs.Common.{◌≡◌, ◌≤◌, ◌+◌, min, drop, length, map}
use Rattle.std.specs.Prelude.{filter}
use Rattle.board_model.specs.State.{holds_from}
use Rattle.report_replay.specs.Replayed.{greatest}
use Rattle.report_replay.proofs.held.frames_in.Given as goal

abbrev pub invariant-loop-frame : goal.invariant-loop-frame
invariant-loop-frame l = record {
  all : min greatest (l.count + length (map (λ h. h.name) (filter (holds_from l.peer) (drop l.frame-index l.held)))) ≡ min greatest (length (map (λ h. h.name) (filter (holds_from l.peer) l.held)));
  small : l.count ≤ greatest;
}
