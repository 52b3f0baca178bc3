use Rattle.std.proofs.Common.{refl}
use Rattle.buffer_book.specs.declared.cell.State.TheVariants as state
use Rattle.buffer_book.proofs.CellWrites.{written-head}
use Rattle.buffer_book.proofs.cell.free.Goals as goal

pub returns : goal.returns
returns c =
    let x = c.index_mut.result.now in
    written-head c.args.cells.now.items c.args.name x (record x { state = state.Free }) c.index_mut.ensures.value refl refl
