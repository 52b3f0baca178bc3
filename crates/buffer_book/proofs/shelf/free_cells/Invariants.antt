use Rattle.std.proofs.Common.{◌≡◌}
use Rattle.buffer_book.specs.Runs.{columns_of, empty_columns}
use Rattle.buffer_book.proofs.shelf.free_cells.Given as goal

abbrev pub invariant-loop : goal.invariant-loop
invariant-loop l = columns_of l.cells.items ≡ empty_columns l.counter
