use Rattle.std.proofs.Common.{take}
use Rattle.board_numbers.specs.Counts.{AreCounts}
use Rattle.board_numbers.proofs.counts.count.Given as goal

abbrev pub invariant-loop-at : goal.invariant-loop-at
invariant-loop-at l = AreCounts l.counts (take l.at l.journal.lines)
