use Rattle.std.proofs.Common.{◌≡◌, ◌<◌, ◌∙◌, length, ap, sym, subst, Some, None}
use Rattle.std.specs.Prelude.{IsNone}
use Rattle.buffer_book.specs.Book.{Shelf, begun, item_on, kept_on_place}
use Rattle.buffer_book.specs.Runs.{Columns, columns_of, with_head, named, shelf_of_columns, IsSound}
use Rattle.buffer_book.proofs.Items.{sound-put}
use Rattle.buffer_book.proofs.ShelfItems.{shelf-begun}
use Rattle.buffer_book.proofs.shelf.PeerShelf.begin.Goals as goal

pub invariant_of-self : goal.invariant_of-self
invariant_of-self c =
    let after = c.name.ensures ∙ ap (λ (k : Columns). with_head k c.args.number (Some (named c.args.number))) c.hold.ensures in
    subst (λ (k : Columns). IsSound k c.self.inside.aside.items c.self.inside.aside_count) (sym after)
    (sound-put (columns_of c.self.inside.cells.items) c.self.inside.aside.items c.self.inside.aside_count c.args.number c.args.held c.self.invariant
    (subst (λ (s : Shelf). c.args.number < length s.places) (sym c.self.view_is) c.requires.within)
    (subst (λ (s : Shelf). kept_on_place s.places c.args.number ≡ None) (sym c.self.view_is) c.requires.away)
    (subst (λ (s : Shelf). IsNone (item_on s.items c.args.number)) (sym c.self.view_is) c.requires.free)
    c.requires.number)

pub returns : goal.returns
returns c =
    let after = c.name.ensures ∙ ap (λ (k : Columns). with_head k c.args.number (Some (named c.args.number))) c.hold.ensures in
    ap (λ (k : Columns). shelf_of_columns c.self.inside.peer k c.self.inside.aside.items) after
    ∙ shelf-begun c.self.inside.peer (columns_of c.self.inside.cells.items) c.self.inside.aside.items c.args.number c.args.held
    ∙ ap (begun c.args.number c.args.held) c.self.view_is
