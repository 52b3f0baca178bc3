use Rattle.std.proofs.Common.{List, ap, length, sym, ◌∙◌}
use Rattle.std.proofs.lemmas.List.{length-map}
use Rattle.buffer_book.specs.declared.cell.Cell.{Cell}
use Rattle.buffer_book.specs.Book.{Shelf}
use Rattle.buffer_book.proofs.shelf.PeerShelf.size.Goals as goal

pub returns : goal.returns
returns c = ap (λ (xs : List Cell). length xs) c.deref-cells.ensures.value ∙ sym (length-map c.self.inside.cells.items (λ (x : Cell). x.held)) ∙ ap (λ (s : Shelf). length s.places) c.self.view_is
