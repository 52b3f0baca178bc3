use Rattle.std.proofs.Common.{◌≡◌, Some}
use Rattle.std.specs.Prelude.{slice_get, option_and_then}
use Rattle.buffer_book.specs.Book.{Item, frames_of, item_of_shelf}
use Rattle.buffer_book.proofs.shelf.PeerShelf.frame.Given as goal

abbrev pub invariant-loop : goal.invariant-loop
invariant-loop l = Some l.at ≡ option_and_then (λ (i : Item). slice_get (frames_of i) l.counter) (item_of_shelf l.fn.self l.name l.fn.lent)
