use Rattle.std.proofs.Common.{◌∙◌, ap}
use Rattle.buffer_book.specs.Book.{Book, place_at}
use Rattle.buffer_book.proofs.ItemLemmas.{lent-place_kept}
use Rattle.book_tests.proofs.steps.lend.Goals as goal

pub returns-clause-others : goal.returns-clause-others
returns-clause-others c = λ other differ away.
    ap (λ (b : Book). place_at b other) c.lend.ensures.book
    ∙ lent-place_kept c.queue.new.book c.in_ok-slot.slot other
    ∙ c.in_ok-slot.ensures.others other differ away
