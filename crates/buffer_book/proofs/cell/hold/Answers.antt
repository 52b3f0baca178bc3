use Rattle.std.proofs.Common.{Some}
use Rattle.buffer_book.proofs.CellWrites.{written-held}
use Rattle.buffer_book.proofs.cell.hold.Goals as goal

pub returns : goal.returns
returns c = written-held c.args.cells.now.items c.args.place (Some c.args.held) c.index_mut.result.now c.index_mut.ensures.value
