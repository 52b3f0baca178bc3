use Rattle.std.proofs.Common.{◌≡◌, map, take}
use Rattle.report_replay.specs.HeldLabels.{request_by}
use Rattle.report_replay.proofs.labels.Labels.requests_at.Given as goal

abbrev pub invariant-loop-label : goal.invariant-loop-label
invariant-loop-label l = l.places.items ≡ map (λ k. request_by l.self l.state k.items) (take l.label-index l.labels)
