use Rattle.std.proofs.Common.{◌≡◌, ◌∙◌, sym, ap, subst, rules}
use Rattle.buffer_book.specs.Book.{Book, IsAway, slot_of, place_at}
use Rattle.buffer_book.proofs.Releases.{released-own}
use Rattle.book_tests.proofs.steps.give_up.Goals as goal

pub returns-in-Ok-clause-own : goal.returns-in-Ok-clause-own
returns-in-Ok-clause-own c = λ is.
    let names : c.in-Ok.buffer.number ≡ c.args.id.buffer = search rules in
    let own = released-own c.args.book.now c.args.id c.in-Ok.buffer c.in-Ok.ensures.buffer c.in-Ok.ensures.number names in
    subst (λ (b : Book). IsAway b (slot_of c.args.id)) (sym c.in-Ok.ensures.book) own.0

pub returns-in-Ok-clause-others : goal.returns-in-Ok-clause-others
returns-in-Ok-clause-others c = λ is other differ away.
    let names : c.in-Ok.buffer.number ≡ c.args.id.buffer = search rules in
    let own = released-own c.args.book.now c.args.id c.in-Ok.buffer c.in-Ok.ensures.buffer c.in-Ok.ensures.number names in
    ap (λ (b : Book). place_at b other) c.in-Ok.ensures.book ∙ own.1 other differ ∙ away
