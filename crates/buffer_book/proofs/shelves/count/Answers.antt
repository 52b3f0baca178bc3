use Rattle.std.proofs.Common.{Option, ap, sym, ◌∙◌}
use Rattle.buffer_book.specs.Book.{Shelf, queued_in, lent_in}
use Rattle.buffer_book.proofs.ShelfLemmas.{found-at, not-found}
use Rattle.buffer_book.proofs.shelves.count.Goals as goal

pub returns-in-Some-clause-queue : goal.returns-in-Some-clause-queue
returns-in-Some-clause-queue c =
    let found = found-at c.args.shelves.now c.args.peer c.in-Some.at c.index-shelves-at.result (sym c.in-Some.ensures.place) c.in-Some.ensures.within c.index-shelves-at.is in
    c.count.ensures.queue ∙ ap (λ (o : Option Shelf). queued_in o) (sym found)

pub returns-in-None-clause-queue : goal.returns-in-None-clause-queue
returns-in-None-clause-queue c =
    let gone = not-found c.args.shelves.now c.args.peer (sym c.place_of.ensures.place ∙ c.in-None.is) in
    ap (λ (o : Option Shelf). queued_in o) (sym gone)

pub returns-in-Some-clause-lent : goal.returns-in-Some-clause-lent
returns-in-Some-clause-lent c =
    let found = found-at c.args.shelves.now c.args.peer c.in-Some.at c.index-shelves-at.result (sym c.in-Some.ensures.place) c.in-Some.ensures.within c.index-shelves-at.is in
    c.count.ensures.lent ∙ ap (λ (o : Option Shelf). lent_in o) (sym found)

pub returns-in-None-clause-lent : goal.returns-in-None-clause-lent
returns-in-None-clause-lent c =
    let gone = not-found c.args.shelves.now c.args.peer (sym c.place_of.ensures.place ∙ c.in-None.is) in
    ap (λ (o : Option Shelf). lent_in o) (sym gone)
