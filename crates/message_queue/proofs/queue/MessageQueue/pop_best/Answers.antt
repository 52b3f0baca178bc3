use Rattle.std.proofs.Common.{◌≡◌, ℕ, ◌-◌, List, length, arith, ap, ◌∙◌}
use Rattle.message_queue.specs.Queue.{Queue, Waiting, popped_best}
use Rattle.message_queue.specs.InQueue.{queue_of}
use Rattle.message_queue.proofs.SoundCells.{waiting_count}
use Rattle.message_queue.proofs.queue.MessageQueue.pop_best.Goals as goal

abbrev queue_from : ℕ → List Waiting → Queue
queue_from room waiting = record { room = room; waiting = waiting }

same_queue : {r s : ℕ} {v w : List Waiting} → r ≡ s → v ≡ w → queue_from r v ≡ queue_from s w
same_queue e f = cc

pub returns-clause-rest : goal.returns-clause-rest
returns-clause-rest c =
    let old = queue_of c.self.inside in
    let new = queue_of (record { cells = c.take-priority.new.self }) in
    let room : new.room ≡ old.room = ap (λ (n : ℕ). n - 1) c.take-priority.ensures.room in
    let same : new ≡ popped_best old = same_queue room (c.take-priority.ensures.rest ∙ c.in_ok-place.ensures.rest) in
    same ∙ ap popped_best c.self.view_is

pub returns-clause-one_less : goal.returns-clause-one_less
returns-clause-one_less c =
    let old = waiting_count c.self.inside.cells in
    let new = waiting_count c.take-priority.new.self in
    let waits = ap (λ (q : Queue). length q.waiting) c.self.view_is in
    let less = c.take-priority.ensures.len in
    omega arith
