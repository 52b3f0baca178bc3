use Rattle.std.proofs.Common.{length, sym, ap, ◌∙◌}
use Rattle.message_queue.specs.Queue.{Queue}
use Rattle.message_queue.proofs.SoundCells.{waiting_count}
use Rattle.message_queue.proofs.queue.MessageQueue.len.Goals as goal

pub returns-clause-count : goal.returns-clause-count
returns-clause-count c = sym (waiting_count c.self.inside.cells) ∙ ap (λ (q : Queue). length q.waiting) c.self.view_is
