use Rattle.std.proofs.Common.{◌≡◌, take}
use Rattle.std.specs.Prelude.{sum_by}
use Rattle.buffer_book.specs.Runs.{columns_of, queued_weight, lent_weight}
use Rattle.buffer_book.proofs.shelf.count_named.Given as goal

abbrev pub invariant-loop-cell : goal.invariant-loop-cell
invariant-loop-cell l = record {
  queue : l.queue ≡ sum_by queued_weight (columns_of (take l.cell-index l.cells)).heads;
  lent : l.lent ≡ sum_by lent_weight (columns_of (take l.cell-index l.cells)).heads;
}
