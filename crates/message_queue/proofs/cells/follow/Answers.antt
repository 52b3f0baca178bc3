use Rattle.message_queue.proofs.CellWrites.{written-same}
use Rattle.message_queue.proofs.cells.follow.Goals as goal

pub returns-clause-columns : goal.returns-clause-columns
returns-clause-columns c = written-same c.args.cells.now.items c.args.before c.args.after c.index_mut.result.now c.index_mut.ensures.value
