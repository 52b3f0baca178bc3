use Rattle.std.proofs.Common.{◌∙◌, ap, set}
use Rattle.message_queue.specs.Cells.{Columns}
use Rattle.message_queue.proofs.CellWrites.{written-next, written-prev, with_prev}
use Rattle.message_queue.proofs.cells.link.Goals as goal

pub returns-clause-columns : goal.returns-clause-columns
returns-clause-columns c =
    let cs = c.args.cells.now.items in
    let x = c.index_mut.result.now in
    written-prev (set cs c.args.before (record x { next = c.args.after })) c.args.after c.args.before c.index_mut-2.result.now c.index_mut-2.ensures.value
    ∙ ap (λ (k : Columns). with_prev k c.args.after c.args.before) (written-next cs c.args.before c.args.after x c.index_mut.ensures.value)
