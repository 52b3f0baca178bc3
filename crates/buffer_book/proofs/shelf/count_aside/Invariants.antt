use Rattle.std.proofs.Common.{◌≡◌, take}
use Rattle.std.specs.Prelude.{sum_by}
use Rattle.buffer_book.specs.Runs.{resting_weight}
use Rattle.buffer_book.proofs.shelf.count_aside.Given as goal

abbrev pub invariant-loop-resting : goal.invariant-loop-resting
invariant-loop-resting l = l.count ≡ sum_by resting_weight (take l.resting-index l.aside)
