use Rattle.std.proofs.Common.{length, arith, ap}
use Rattle.message_queue.specs.Queue.{Queue}
use Rattle.message_queue.proofs.SoundCells.{waiting_count}
use Rattle.message_queue.proofs.queue.MessageQueue.push.Goals as goal

pub append-requires-clause-room : goal.append-requires-clause-room
append-requires-clause-room c =
    let count = waiting_count c.self.inside.cells in
    let waits = ap (λ (q : Queue). length q.waiting) c.self.view_is in
    let room = ap (λ (q : Queue). q.room) c.self.view_is in
    omega arith
