use Rattle.std.proofs.Common.{Option, ap, sym, ◌∙◌}
use Rattle.buffer_book.specs.Book.{Shelf, size_in}
use Rattle.buffer_book.proofs.ShelfLemmas.{found-at, not-found}
use Rattle.buffer_book.proofs.shelves.size.Goals as goal

pub returns-in-Some : goal.returns-in-Some
returns-in-Some c =
    let found = found-at c.args.shelves.now c.args.peer c.in-Some.at c.index-shelves-at.result (sym c.in-Some.ensures.place) c.in-Some.ensures.within c.index-shelves-at.is in
    c.size.ensures ∙ ap (λ (o : Option Shelf). size_in o) (sym found)

pub returns-in-None : goal.returns-in-None
returns-in-None c =
    let gone = not-found c.args.shelves.now c.args.peer (sym c.place_of.ensures.place ∙ c.in-None.is) in
    ap (λ (o : Option Shelf). size_in o) (sym gone)
