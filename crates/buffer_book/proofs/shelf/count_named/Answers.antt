use Rattle.std.proofs.Common.{arith}
use Rattle.buffer_book.proofs.CellWrites.{cell-counts, queued-weighs, lent-weighs}
use Rattle.buffer_book.proofs.shelf.count_named.Goals as goal

pub overflow_add-queue : goal.overflow_add-queue
overflow_add-queue c =
    let bound = cell-counts c.args.cells.now c.loop-cell.cell-index c.cell-item.result c.loop-cell-test.true c.cell-item.is in
    let weight = queued-weighs c.cell-item.result c.in-Queued.is in
    let all = c.requires in
    omega (arith, bound, weight)

pub overflow_add-queue-in-Queued : goal.overflow_add-queue-in-Queued
overflow_add-queue-in-Queued c =
    let bound = cell-counts c.args.cells.now c.loop-cell.cell-index c.cell-item.result c.loop-cell-test.true c.cell-item.is in
    let weight = queued-weighs c.cell-item.result c.in-Queued.is in
    let so_far = c.loop-cell.invariant.queue in
    let all = c.requires in
    omega (arith, bound, weight)

pub overflow_add-lent : goal.overflow_add-lent
overflow_add-lent c =
    let bound = cell-counts c.args.cells.now c.loop-cell.cell-index c.cell-item.result c.loop-cell-test.true c.cell-item.is in
    let weight = lent-weighs c.cell-item.result c.in-Lent.field-0 c.in-Lent.is in
    let all = c.requires in
    omega (arith, bound, weight)

pub overflow_add-lent-in-Lent : goal.overflow_add-lent-in-Lent
overflow_add-lent-in-Lent c =
    let bound = cell-counts c.args.cells.now c.loop-cell.cell-index c.cell-item.result c.loop-cell-test.true c.cell-item.is in
    let weight = lent-weighs c.cell-item.result c.in-Lent.field-0 c.in-Lent.is in
    let so_far = c.loop-cell.invariant.lent in
    let all = c.requires in
    omega (arith, bound, weight)
