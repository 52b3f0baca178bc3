use Rattle.std.proofs.Common.{◌∙◌, Option, ap, sym, subst}
use Rattle.std.specs.Prelude.{IsSome, option_map}
use Rattle.buffer_book.specs.Book.{Shelf, lent_on, item_on}
use Rattle.buffer_book.specs.Runs.{Head, Columns, columns_of, with_head, lent_head, shelf_of_columns, IsSound}
use Rattle.buffer_book.proofs.Items.{sound-lend}
use Rattle.buffer_book.proofs.ShelfItems.{some-head, known-head, shelf-lent}
use Rattle.buffer_book.proofs.shelf.PeerShelf.lend.Goals as goal

pub invariant_of-self : goal.invariant_of-self
invariant_of-self c =
    let k = columns_of c.self.inside.cells.items in
    let h = some-head k c.args.name (subst (λ (s : Shelf). IsSome (item_on s.items c.args.name)) (sym c.self.view_is) c.requires) in
    let after = c.lend.ensures ∙ ap (λ (o : Option Head). with_head k c.args.name (option_map (lent_head c.args.serial) o)) (known-head k c.args.name h.0 h.1) in
    subst (λ (x : Columns). IsSound x c.self.inside.aside.items c.self.inside.aside_count) (sym after)
    (sound-lend k c.self.inside.aside.items c.self.inside.aside_count c.args.name c.args.serial h.0 c.self.invariant h.1)

pub returns : goal.returns
returns c =
    let k = columns_of c.self.inside.cells.items in
    let h = some-head k c.args.name (subst (λ (s : Shelf). IsSome (item_on s.items c.args.name)) (sym c.self.view_is) c.requires) in
    let after = c.lend.ensures ∙ ap (λ (o : Option Head). with_head k c.args.name (option_map (lent_head c.args.serial) o)) (known-head k c.args.name h.0 h.1) in
    ap (λ (x : Columns). shelf_of_columns c.self.inside.peer x c.self.inside.aside.items) after
    ∙ shelf-lent c.self.inside.peer k c.self.inside.aside.items c.args.name c.args.serial h.0 h.1
    ∙ ap (lent_on c.args.name c.args.serial) c.self.view_is
