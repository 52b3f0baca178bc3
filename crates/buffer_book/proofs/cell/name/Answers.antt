use Rattle.std.proofs.Common.{refl}
use Rattle.buffer_book.specs.declared.cell.State.TheVariants as state
use Rattle.buffer_book.proofs.CellWrites.{written-head}
use Rattle.buffer_book.proofs.cell.name.Goals as goal

pub returns : goal.returns
returns c =
    let x = c.index_mut-cell.result.now in
    written-head c.args.cells.now.items c.args.place x (record x { state = state.Queued; more = 0; first = c.args.place; last = c.args.place }) c.index_mut-cell.ensures.value refl refl
