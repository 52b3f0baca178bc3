use Rattle.std.proofs.Common.{◌≡◌, ◌++◌, drop, map}
use Rattle.std.specs.List.{All}
use Rattle.board_model.specs.RingImage.{image_length, steps_from, device_step}
use Rattle.ring_trace.specs.Writes.{write_of, LiesWithin}
use Rattle.ring_trace.proofs.writes.device_writes.Given as goal

-- what is there, and then what is left
abbrev pub invariant-loop-n : goal.invariant-loop-n
invariant-loop-n l = record { writes : map write_of l.out.items ++ steps_from (device_step l.size) l.n (drop l.n l.returned) ≡ steps_from (device_step l.size) 0 l.returned; within : All (LiesWithin (image_length l.size)) l.out.items }
