use Rattle.std.proofs.Common.{subst}
use Rattle.buffer_book.specs.Book.{HoldsOnce}
use Rattle.buffer_book.specs.Runs.{columns_of}
use Rattle.buffer_book.proofs.Found.{holds-once}
use Rattle.buffer_book.proofs.shelf.PeerShelf.each_held_once.Goals as goal

pub returns : goal.returns
returns c = subst HoldsOnce c.self.view_is (holds-once c.self.inside.peer (columns_of c.self.inside.cells.items) c.self.inside.aside.items c.self.inside.aside_count c.self.invariant)
