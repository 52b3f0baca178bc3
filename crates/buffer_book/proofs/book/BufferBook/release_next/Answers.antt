use Rattle.std.proofs.Common.{Some, sym}
use Rattle.buffer_book.specs.Book.{taken}
use Rattle.buffer_book.proofs.ShelfLemmas.{differ-either, taken-peer}
use Rattle.buffer_book.proofs.book.BufferBook.release_next.Goals as goal

pub invariant_of-self : goal.invariant_of-self
invariant_of-self c =
    differ-either c.take.result c.args.id.peer (taken c.args.id.buffer (Some c.args.id.serial)) c.self.inside.shelves.items c.deref_mut.result.now c.take.new.shelves c.self.inside.shelves.len
    (taken-peer c.args.id.buffer (Some c.args.id.serial)) (sym c.deref_mut.ensures.len) c.deref_mut.ensures.value c.take.ensures.shelves c.take.ensures.stays c.self.invariant
