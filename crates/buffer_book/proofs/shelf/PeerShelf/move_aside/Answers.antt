use Rattle.std.proofs.Common.{◌≡◌, ◌∙◌, ◌+◌, ap, sym, subst, Some, arith}
use Rattle.std.specs.Prelude.{option_map, slice_set}
use Rattle.buffer_book.specs.Book.{Shelf, Item, moved_aside, item_on}
use Rattle.buffer_book.specs.Runs.{Columns, columns_of, shelf_of_columns, IsSound}
use Rattle.buffer_book.proofs.AsideItems.{sound-aside, count-fits}
use Rattle.buffer_book.proofs.Items.{last-within}
use Rattle.buffer_book.proofs.ShelfItems.{lent-there, lent_from_cell, shelf-aside}
use Rattle.buffer_book.proofs.shelf.PeerShelf.move_aside.Goals as goal

pub index_mut-requires : goal.index_mut-requires
index_mut-requires c =
    let cs = c.self.inside.cells.items in
    let x = c.index-cell.result.now in
    let there = lent-there (columns_of cs).next cs c.args.name c.args.serial x c.index-cell.ensures (subst (λ (s : Shelf). option_map (λ (i : Item). i.lent) (item_on s.items c.args.name) ≡ Some (Some c.args.serial)) (sym c.self.view_is) c.requires) in
    let lt = last-within (columns_of cs) c.self.inside.aside.items c.self.inside.aside_count c.args.name (lent_from_cell x c.args.serial) c.self.invariant there in
    let links = c.self.invariant.links in
    let rests = c.self.invariant.rests in
    omega arith

pub overflow_add-self : goal.overflow_add-self
overflow_add-self c =
    let cs = c.self.inside.cells.items in
    let x = c.index-cell.result.now in
    let there = lent-there (columns_of cs).next cs c.args.name c.args.serial x c.index-cell.ensures (subst (λ (s : Shelf). option_map (λ (i : Item). i.lent) (item_on s.items c.args.name) ≡ Some (Some c.args.serial)) (sym c.self.view_is) c.requires) in
    let fits = count-fits (columns_of cs) c.self.inside.aside.items c.self.inside.aside_count c.args.name (lent_from_cell x c.args.serial) c.self.invariant there in
    omega arith

pub invariant_of-self : goal.invariant_of-self
invariant_of-self c =
    let cs = c.self.inside.cells.items in
    let x = c.index-cell.result.now in
    let there = lent-there (columns_of cs).next cs c.args.name c.args.serial x c.index-cell.ensures (subst (λ (s : Shelf). option_map (λ (i : Item). i.lent) (item_on s.items c.args.name) ≡ Some (Some c.args.serial)) (sym c.self.view_is) c.requires) in
    subst (λ (k : Columns). IsSound k (slice_set c.self.inside.aside.items x.last (Some (record { name = c.args.name; first = x.first; more = x.more; serial = c.args.serial }))) (c.self.inside.aside_count + 1)) (sym c.free.ensures)
    (sound-aside (columns_of cs) c.self.inside.aside.items c.self.inside.aside_count c.args.name c.args.serial (lent_from_cell x c.args.serial) c.self.invariant there)

pub returns : goal.returns
returns c =
    let cs = c.self.inside.cells.items in
    let x = c.index-cell.result.now in
    let there = lent-there (columns_of cs).next cs c.args.name c.args.serial x c.index-cell.ensures (subst (λ (s : Shelf). option_map (λ (i : Item). i.lent) (item_on s.items c.args.name) ≡ Some (Some c.args.serial)) (sym c.self.view_is) c.requires) in
    ap (λ (k : Columns). shelf_of_columns c.self.inside.peer k (slice_set c.self.inside.aside.items x.last (Some (record { name = c.args.name; first = x.first; more = x.more; serial = c.args.serial })))) c.free.ensures
    ∙ shelf-aside c.self.inside.peer (columns_of cs) c.self.inside.aside.items c.self.inside.aside_count c.args.name c.args.serial x.first x.last x.more c.self.invariant there
    ∙ ap (moved_aside c.args.name) c.self.view_is
