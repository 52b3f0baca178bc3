use Rattle.std.proofs.Common.{◌≡◌, ◌+◌, length}
use Rattle.report_text.specs.Ranks.{neighbour_rank}
use Rattle.report_text.specs.Texts.{neighbours_of}
use Rattle.report_text.proofs.board.neighbour_rank.Given as goal

abbrev pub decreases-loop-rest : goal.decreases-loop-rest
decreases-loop-rest l = length l.rest

abbrev pub invariant-loop-rest : goal.invariant-loop-rest
invariant-loop-rest l = record { value : l.count + neighbour_rank l.number (neighbours_of l.rest) ≡ neighbour_rank l.number (neighbours_of l.found); all : l.count + length l.rest ≡ length l.found }
