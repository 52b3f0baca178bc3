use Rattle.buffer_book.proofs.CellWrites.{written-next}
use Rattle.buffer_book.proofs.cell.link.Goals as goal

pub returns : goal.returns
returns c = written-next c.args.cells.now.items c.args.place c.args.next c.index_mut.result.now c.index_mut.ensures.value
