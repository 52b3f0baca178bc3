use Rattle.std.proofs.Common.{◌∙◌, ap, sym, subst}
use Rattle.std.specs.Prelude.{IsNone}
use Rattle.buffer_book.specs.Book.{Shelf, begun, item_on}
use Rattle.buffer_book.proofs.ShelfItems.{aside-frees, aside-places}
use Rattle.buffer_book.proofs.shelf.PeerShelf.put.Goals as goal

pub begin-requires-clause-away : goal.begin-requires-clause-away
begin-requires-clause-away c =
    let places = ap (λ (s : Shelf). s.places) c.free_name.ensures ∙ aside-places c.args.number c.args.self.now in
    rw places c.requires.away

pub begin-requires-clause-within : goal.begin-requires-clause-within
begin-requires-clause-within c =
    let places = ap (λ (s : Shelf). s.places) c.free_name.ensures ∙ aside-places c.args.number c.args.self.now in
    rw places c.requires.within

pub begin-requires-clause-free : goal.begin-requires-clause-free
begin-requires-clause-free c = subst (λ (s : Shelf). IsNone (item_on s.items c.args.number)) (sym c.free_name.ensures) (aside-frees c.args.number c.args.self.now)

pub returns : goal.returns
returns c = c.begin.ensures ∙ ap (begun c.args.number c.args.held) c.free_name.ensures
