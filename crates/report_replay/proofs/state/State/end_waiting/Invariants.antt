use Rattle.std.proofs.Common.{◌≡◌, ◌++◌, map, take, drop}
use Rattle.report_replay.specs.Replayed.{ended_at}
use Rattle.report_replay.proofs.state.State.end_waiting.Given as goal

abbrev pub invariant-loop-request : goal.invariant-loop-request
invariant-loop-request l = l.request-items ≡ map (ended_at l.local l.word) (take l.request-index l.initial.request-items) ++ drop l.request-index l.initial.request-items
