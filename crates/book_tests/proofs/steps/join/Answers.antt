use Rattle.std.proofs.Common.{◌≢◌, ◌∙◌, ℕ, ap, sym, subst}
use Rattle.buffer_book.specs.Book.{Book, IsQueued, kept_in_buffer, place_at}
use Rattle.buffer_book.proofs.ItemLemmas.{joined-queued, joined-place_kept}
use Rattle.book_tests.proofs.steps.join.Goals as goal

pub join-requires-clause-away : goal.join-requires-clause-away
join-requires-clause-away c = rw c.in_ok-buffer.ensures.number c.requires.away

pub returns-clause-queued : goal.returns-clause-queued
returns-clause-queued c =
    let k = kept_in_buffer c.in_ok-buffer.buffer c.args.start c.args.size in
    subst (λ (b : Book). IsQueued b c.args.first) (sym c.join.ensures) (joined-queued c.args.book.now c.args.first k c.requires.item)

pub returns-clause-others : goal.returns-clause-others
returns-clause-others c = λ other differs away.
    let k = kept_in_buffer c.in_ok-buffer.buffer c.args.start c.args.size in
    ap (λ (b : Book). place_at b other) c.join.ensures
    ∙ joined-place_kept c.args.book.now c.args.first other k (subst (λ (n : ℕ). other.buffer ≢ n) (sym c.in_ok-buffer.ensures.number) differs)
    ∙ away
