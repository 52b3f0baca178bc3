use Rattle.std.proofs.Common.{◌<◌, ◌∷◌, [], ℕ, refl, arith}
use Rattle.mc_base.specs.declared.request.Slot.{Slot}
use Rattle.buffer_book.specs.Book.{IsAway, opening_book}
use Rattle.buffer_book.proofs.Opening.{opening-away}
use Rattle.book_tests.proofs.frames.are_told_apart.Goals as goal

abbrev at : ℕ → Slot
at n = record { peer = 1; buffer = n }

opening : (n : ℕ) → n < 4 → IsAway (opening_book ((1, 4) ∷ [])) (at n)
opening n within = opening-away ((1, 4) ∷ []) (at n) (1, 4) refl within

pub lend_two-requires-2-clause-second : goal.lend_two-requires-2-clause-second
lend_two-requires-2-clause-second c = c.in_ok-first.ensures.others (at 2) (omega arith) (omega arith) (rw c.in_ok-book.ensures (opening 2 (omega arith)))

pub lend_two-requires-3-clause-second : goal.lend_two-requires-3-clause-second
lend_two-requires-3-clause-second c =
    c.in_ok-second.ensures.others (at 3) (omega arith) (omega arith)
    (c.in_ok-first.ensures.others (at 3) (omega arith) (omega arith) (rw c.in_ok-book.ensures (opening 3 (omega arith))))
