use Rattle.domain_core.specs.DomainView.{pieces_lent_as}
use Rattle.board_runner.proofs.PieceLemmas.{Gathered}
use Rattle.board_runner.proofs.packets.copy_packet.Given as goal

abbrev pub invariant-loop-n : goal.invariant-loop-n
invariant-loop-n l = Gathered l.n l.size l.out (pieces_lent_as l.domain l.packet)
