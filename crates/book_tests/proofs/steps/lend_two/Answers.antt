use Rattle.std.proofs.Common.{◌∙◌, ap, rules}
use Rattle.buffer_book.specs.Book.{Book, place_at}
use Rattle.buffer_book.proofs.ItemLemmas.{lent-place_kept}
use Rattle.book_tests.proofs.steps.lend_two.Goals as goal

pub join-requires-clause-away : goal.join-requires-clause-away
join-requires-clause-away c = c.in_ok-queue.ensures.others (record { peer = c.args.slot.peer; buffer = c.args.second }) c.requires.differ c.requires.second

pub returns-clause-own : goal.returns-clause-own
returns-clause-own c = rw c.lend-id.ensures.id at c.give_up.ensures.own (search rules)

pub returns-clause-others : goal.returns-clause-others
returns-clause-others c = λ other first second away.
    c.give_up.ensures.others (search rules) other (rw c.lend-id.ensures.id first)
    (ap (λ (b : Book). place_at b other) c.lend-id.ensures.book
    ∙ lent-place_kept c.join.new.book c.args.slot other
    ∙ c.in_ok-join.ensures.others other second (c.in_ok-queue.ensures.others other first away))
