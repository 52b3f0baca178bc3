use Rattle.std.proofs.Common.{◌≡◌, ◌≤◌, ◌<◌}
use Rattle.mc_base.specs.declared.request.Slot.{Slot}
use Rattle.buffer_book.specs.Book.{IsAway}
use Rattle.book_tests.proofs.steps.lend_first.Given as goal

abbrev pub invariant-loop-buffer : goal.invariant-loop-buffer
invariant-loop-buffer l = (slot : Slot) → slot.peer ≡ l.peer → l.buffer ≤ slot.buffer → slot.buffer < l.count → IsAway l.book slot
