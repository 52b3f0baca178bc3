use Rattle.std.proofs.Common.{◌≡◌, ◌+◌, ◌*◌, ◌∷◌, [], find, None}
use Rattle.std.specs.List.{flat_map, range_with_len}
use Rattle.ring_trace.specs.ImageFaults.{is_broken, at_most}
use Rattle.ring_trace.proofs.rules.broken_column.Given as goal

-- no number of the column so far is over the most
abbrev pub invariant-loop-p : goal.invariant-loop-p
invariant-loop-p l = find (is_broken l.image) (flat_map (λ p. at_most (l.column.first + l.column.step * p) l.column.width l.most ∷ []) (range_with_len 0 l.p)) ≡ None
