use Rattle.std.proofs.Common.{◌≡◌, replicate, None}
use Rattle.buffer_book.proofs.shelf.none_aside.Given as goal

abbrev pub invariant-loop : goal.invariant-loop
invariant-loop l = l.aside.items ≡ replicate l.counter None
