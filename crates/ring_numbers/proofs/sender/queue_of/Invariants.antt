use Rattle.std.proofs.Common.{◌≡◌, take}
use Rattle.ring_numbers.proofs.sender.queue_of.Given as goal

abbrev pub invariant-loop-place : goal.invariant-loop-place
invariant-loop-place l = l.queue.items ≡ take l.place-index l.places
