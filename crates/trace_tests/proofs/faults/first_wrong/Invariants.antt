use Rattle.std.proofs.Common.{◌≡◌, length}
use Rattle.board_model.specs.RingImage.{image_length}
use Rattle.trace_tests.proofs.faults.first_wrong.Given as goal

abbrev pub invariant-loop-at : goal.invariant-loop-at
invariant-loop-at l = record {
  len : length l.image.items ≡ image_length l.size;
}
