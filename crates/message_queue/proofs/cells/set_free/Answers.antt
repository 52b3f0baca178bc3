use Rattle.message_queue.proofs.CellWrites.{written-next}
use Rattle.message_queue.proofs.cells.set_free.Goals as goal

pub returns-clause-columns : goal.returns-clause-columns
returns-clause-columns c = written-next c.args.cells.now.items c.args.place c.args.free c.index_mut.result.now c.index_mut.ensures.value
