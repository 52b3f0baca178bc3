use Rattle.std.proofs.Common.{◌∙◌, ap, sym, arith}
use Rattle.buffer_book.specs.Book.{Shelf, item_of_shelf}
use Rattle.buffer_book.specs.Runs.{columns_of}
use Rattle.buffer_book.proofs.Found.{found, run-some}
use Rattle.buffer_book.proofs.shelf.PeerShelf.frames.Goals as goal

pub overflow_add-result : goal.overflow_add-result
overflow_add-result c =
    let i = run-some (item_of_shelf c.args.self.now c.args.name c.args.lent) c.in_ok-run.field-0 (sym c.in_ok-run.ensures) in
    let fits = (found c.self.inside.peer (columns_of c.self.inside.cells.items) c.self.inside.aside.items c.self.inside.aside_count c.args.name c.args.lent i.0 c.self.invariant (ap (λ (s : Shelf). item_of_shelf s c.args.name c.args.lent) c.self.view_is ∙ i.1)).fits in
    let size = i.3 in
    omega (arith, fits, size)
