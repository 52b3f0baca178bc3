use Rattle.std.proofs.Common.{◌≡◌, find, None}
use Rattle.std.specs.List.{flat_map, range_with_len}
use Rattle.ring_trace.specs.ImageFaults.{is_broken, descriptor_constants}
use Rattle.ring_trace.proofs.rules.broken_constant.Given as goal

-- no constant of the descriptors so far is another
abbrev pub invariant-loop-i : goal.invariant-loop-i
invariant-loop-i l = find (is_broken l.image) (flat_map (descriptor_constants l.size l.queue) (range_with_len 0 l.i)) ≡ None
