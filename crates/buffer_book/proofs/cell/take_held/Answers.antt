use Rattle.std.proofs.Common.{Option, ap, ◌∙◌}
use Rattle.buffer_book.specs.Book.{Kept}
use Rattle.buffer_book.specs.Runs.{columns_of, with_held}
use Rattle.buffer_book.proofs.CellWrites.{written-held}
use Rattle.buffer_book.proofs.cell.take_held.Goals as goal

pub returns-clause-columns : goal.returns-clause-columns
returns-clause-columns c =
    written-held c.args.cells.now.items c.args.place c.take.new.self c.index_mut-cell.result.now c.index_mut-cell.ensures.value
    ∙ ap (λ (k : Option Kept). with_held (columns_of c.args.cells.now.items) c.args.place k) c.take.ensures.after
