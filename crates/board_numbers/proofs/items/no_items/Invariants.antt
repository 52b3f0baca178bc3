use Rattle.std.proofs.Common.{map}
use Rattle.board_numbers.specs.ItemCounts.{HasNoItems}
use Rattle.board_numbers.proofs.EachLemmas.{EachSoFar}
use Rattle.board_numbers.proofs.items.no_items.Given as goal

abbrev pub invariant-loop-at : goal.invariant-loop-at
invariant-loop-at g l = EachSoFar HasNoItems l.at (map g.D.EndedDomain.ended l.domains) l.all.items
