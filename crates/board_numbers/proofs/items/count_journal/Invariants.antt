use Rattle.std.proofs.Common.{take}
use Rattle.board_numbers.specs.ItemCounts.{ClosesLast, CountsLines, EachWith}
use Rattle.board_numbers.proofs.items.count_journal.Given as goal

abbrev pub invariant-loop-at : goal.invariant-loop-at
invariant-loop-at l = record {
  counted : EachWith (CountsLines l.own (take l.at l.journal.lines)) l.fn.all l.all;
  closes : ClosesLast (take l.at l.journal.lines) l.closing;
}
