use Rattle.std.proofs.Common.{◌≡◌, ◌+◌, ◌∷◌, length}
use Rattle.message_queue.specs.Linked.{at, upto}
use Rattle.message_queue.specs.Cells.{columns_of}
use Rattle.message_queue.proofs.cells.free_cells.Given as goal

abbrev pub invariant-loop-below : goal.invariant-loop-below
invariant-loop-below l = record {
  made : length l.cells.items ≡ l.below + 1;
  ring : at (columns_of l.cells.items).prev 0 ≡ 0;
  next : (columns_of l.cells.items).next ≡ 0 ∷ upto l.below;
}
