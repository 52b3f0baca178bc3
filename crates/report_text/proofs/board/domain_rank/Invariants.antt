use Rattle.std.proofs.Common.{◌≡◌, ◌+◌, length}
use Rattle.report_text.specs.Ranks.{domain_rank}
use Rattle.report_text.proofs.board.domain_rank.Given as goal

abbrev pub decreases-loop-rest : goal.decreases-loop-rest
decreases-loop-rest l = length l.rest

abbrev pub invariant-loop-rest : goal.invariant-loop-rest
invariant-loop-rest l = record { value : l.count + domain_rank l.number l.rest ≡ domain_rank l.number l.lines; all : l.count + length l.rest ≡ length l.lines }
