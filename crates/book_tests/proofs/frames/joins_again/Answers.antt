use Rattle.std.proofs.Common.{◌<◌, ◌∷◌, [], ℕ, refl, arith}
use Rattle.mc_base.specs.declared.request.Slot.{Slot}
use Rattle.buffer_book.specs.Book.{IsAway, opening_book}
use Rattle.buffer_book.proofs.Opening.{opening-away}
use Rattle.book_tests.proofs.frames.joins_again.Goals as goal

abbrev at : ℕ → Slot
at n = record { peer = 1; buffer = n }

opening : (n : ℕ) → n < 4 → IsAway (opening_book ((1, 4) ∷ [])) (at n)
opening n within = opening-away ((1, 4) ∷ []) (at n) (1, 4) refl within

pub join-requires-clause-away : goal.join-requires-clause-away
join-requires-clause-away c = c.in_ok-queue.ensures.others (at 0) (omega arith) (rw c.in_ok-book.ensures (opening 0 (omega arith)))
