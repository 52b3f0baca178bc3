use Rattle.std.proofs.Common.{Some}
use Rattle.board_numbers.specs.ItemCounts.{AddsTold}
use Rattle.board_numbers.proofs.EachLemmas.{WrittenTo}
use Rattle.board_numbers.proofs.items.count_told.Given as goal

abbrev pub invariant-loop-counts : goal.invariant-loop-counts
invariant-loop-counts l = WrittenTo (AddsTold (Some l.told)) l.counts-index l.fn.all l.all
