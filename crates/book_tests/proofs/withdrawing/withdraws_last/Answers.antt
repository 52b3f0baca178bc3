use Rattle.std.proofs.Common.{◌∷◌, [], ◌-◌, refl, arith}
use Rattle.mc_base.specs.declared.request.Slot.{Slot}
use Rattle.buffer_book.proofs.Opening.{opening-away}
use Rattle.book_tests.proofs.withdrawing.withdraws_last.Goals as goal

pub queue-requires-2-clause-away : goal.queue-requires-2-clause-away
queue-requires-2-clause-away c =
    let other : Slot = record { peer = 1; buffer = 1 - c.args.first } in
    c.in_ok-queue.ensures.others other (omega arith) (rw c.in_ok-book.ensures (opening-away ((1, 2) ∷ []) other (1, 2) refl (omega arith)))
