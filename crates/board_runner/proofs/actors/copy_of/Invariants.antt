use Rattle.std.proofs.Common.{◌≡◌, take}
use Rattle.board_runner.proofs.actors.copy_of.Given as goal

abbrev pub invariant-loop-item : goal.invariant-loop-item
invariant-loop-item g l = l.copy ≡ take l.item-index l.items
