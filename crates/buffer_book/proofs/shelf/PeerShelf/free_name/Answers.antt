use Rattle.std.proofs.Common.{◌<◌, ◌∙◌, length, None, ap, sym, subst, arith}
use Rattle.std.specs.Prelude.{IsNone, option_map}
use Rattle.std.proofs.lemmas.List.{length-map}
use Rattle.buffer_book.specs.declared.cell.Cell.{Cell}
use Rattle.buffer_book.specs.Book.{Shelf, Item, item_on, item_as}
use Rattle.buffer_book.specs.Runs.{columns_of}
use Rattle.buffer_book.proofs.ShelfItems.{lent-item, unlent-free, aside-none}
use Rattle.buffer_book.proofs.shelf.PeerShelf.free_name.Goals as goal

pub move_aside-requires : goal.move_aside-requires
move_aside-requires c =
    let cs = c.self.inside.cells.items in
    let within = subst (λ (s : Shelf). c.args.name < length s.places) (sym c.self.view_is) c.requires.within in
    let size = length-map cs (λ (x : Cell). x.held) in
    ap (λ (s : Shelf). option_map (λ (i : Item). i.lent) (item_on s.items c.args.name)) (sym c.self.view_is)
    ∙ lent-item (columns_of cs).next cs c.args.name c.in-Lent.serial c.index.result.now (omega (arith, within, size)) c.index.ensures c.in-Lent.is

pub returns-in_default : goal.returns-in_default
returns-in_default c =
    let cs = c.self.inside.cells.items in
    let within = subst (λ (s : Shelf). c.args.name < length s.places) (sym c.self.view_is) c.requires.within in
    let size = length-map cs (λ (x : Cell). x.held) in
    let unqueued = subst (λ (s : Shelf). IsNone (item_as s.items c.args.name None)) (sym c.self.view_is) c.requires.unqueued in
    let free = unlent-free (columns_of cs).next cs c.args.name c.index.result.now (omega (arith, within, size)) c.index.ensures c.in_default.not-Lent unqueued in
    sym (aside-none c.args.name c.args.self.now (subst (λ (s : Shelf). IsNone (item_on s.items c.args.name)) c.self.view_is free))
