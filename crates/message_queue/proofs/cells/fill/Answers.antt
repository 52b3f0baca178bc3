use Rattle.message_queue.proofs.CellWrites.{written-held}
use Rattle.message_queue.proofs.cells.fill.Goals as goal

pub returns-clause-columns : goal.returns-clause-columns
returns-clause-columns c = written-held c.args.cells.now.items c.args.place c.args.entry c.index_mut-cell.result.now c.index_mut-cell.ensures.value
