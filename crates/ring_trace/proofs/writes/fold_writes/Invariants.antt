use Rattle.std.proofs.Common.{◌≡◌, drop, map, length}
use Rattle.board_model.specs.RingImage.{all_written}
use Rattle.ring_trace.specs.Writes.{write_of}
use Rattle.ring_trace.proofs.writes.fold_writes.Given as goal

-- what is left to write makes the whole of what stands
abbrev pub invariant-loop-write : goal.invariant-loop-write
invariant-loop-write l = record { whole : all_written l.out.items (map write_of (drop l.write-index l.writes)) ≡ all_written l.start (map write_of l.writes); len : length l.out.items ≡ length l.start }
