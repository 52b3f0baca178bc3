use Rattle.std.proofs.Common.{sym}
use Rattle.buffer_book.specs.Book.{enqueued}
use Rattle.buffer_book.proofs.ShelfLemmas.{differ-back, enqueued-peer}
use Rattle.buffer_book.proofs.book.BufferBook.enqueue.Goals as goal

pub invariant_of-self : goal.invariant_of-self
invariant_of-self c = differ-back c.args.peer (enqueued c.number.result c.new-held.result) c.self.inside.shelves.items c.deref_mut.result.now c.put.new.shelves c.self.inside.shelves.len (enqueued-peer c.number.result c.new-held.result) (sym c.deref_mut.ensures.len) c.deref_mut.ensures.value c.put.ensures c.self.invariant
