use Rattle.std.proofs.Common.{◌≡◌, ℕ, None, refl, sym, subst, rules}
use Rattle.buffer_book.specs.Book.{Book, IsAway, IsQueued, with_taken}
use Rattle.book_tests.proofs.Withdrawals.{rest-queued, withdrawn-away}
use Rattle.book_tests.proofs.frames.takes_first.Goals as goal

pub returns-clause-queued : goal.returns-clause-queued
returns-clause-queued c = λ is.
    subst (λ (b : Book). IsQueued b c.args.slot) (sym (c.in-Some.ensures.book refl))
    (rest-queued c.args.book.now c.args.slot c.pieces-count.result c.pieces-count.ensures (search rules))

pub returns-clause-away : goal.returns-clause-away
returns-clause-away c = λ is.
    let same : c.in-Some.buffer.number ≡ c.args.number = search rules in
    subst (λ (b : Book). IsAway b (record { peer = c.args.slot.peer; buffer = c.args.number })) (sym (c.in-Some.ensures.book refl))
    (subst (λ (n : ℕ). IsAway (with_taken c.args.book.now c.args.slot None) (record { peer = c.args.slot.peer; buffer = n })) same (withdrawn-away c.args.book.now c.args.slot c.in-Some.buffer c.in-Some.ensures.buffer c.in-Some.ensures.number))
