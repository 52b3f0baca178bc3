use Rattle.std.proofs.Common.{◌≡◌, ◌++◌}
use Rattle.board_model.specs.RingImage.{for_each, offered_entry, start_values}
use Rattle.ring_trace.proofs.start.push_offered.Given as goal

abbrev pub invariant-loop-place : goal.invariant-loop-place
invariant-loop-place l = l.out.items ≡ l.initial.out.items ++ for_each (offered_entry (start_values l.size 0)) l._place
