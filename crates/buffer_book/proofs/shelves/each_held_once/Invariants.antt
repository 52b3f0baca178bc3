use Rattle.std.proofs.Common.{take}
use Rattle.std.specs.List.{AllByRecursion}
use Rattle.buffer_book.specs.Book.{HoldsOnce}
use Rattle.buffer_book.proofs.shelves.each_held_once.Given as goal

abbrev pub invariant-loop-shelf : goal.invariant-loop-shelf
invariant-loop-shelf l = AllByRecursion HoldsOnce (take l.shelf-index l.shelves)
