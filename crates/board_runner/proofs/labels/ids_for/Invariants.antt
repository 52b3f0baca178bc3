use Rattle.std.proofs.Common.{◌≡◌, map, take}
use Rattle.board_runner.specs.Held.{id_or_none}
use Rattle.board_runner.proofs.labels.ids_for.Given as goal

abbrev pub invariant-loop-label : goal.invariant-loop-label
invariant-loop-label l = l.named.items ≡ map (λ k. id_or_none l.ids k.items) (take l.label-index l.labels)
