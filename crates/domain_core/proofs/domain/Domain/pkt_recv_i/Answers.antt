use Rattle.std.proofs.Common.{refl}
use Rattle.board_model.specs.DomainCall.{packet_request_at}
use Rattle.domain_parts.specs.Calls.{given, requested}
use Rattle.domain_parts.specs.Ends.{EndsMoved}
use Rattle.domain_parts.specs.Parts.{shown}
use Rattle.domain_parts.proofs.CallLemmas.{calls-of}
use Rattle.domain_core.proofs.domain.Domain.pkt_recv_i.Goals as goal

pub returns-clause-call : goal.returns-clause-call
returns-clause-call g c =
    rw c.self.view_is at
    (calls-of (EndsMoved g.S.SendEnd.Moved g.R.RecvEnd.Moved) c.args.at.node (packet_request_at c.args.at.port) c.take_turn.new.self c.begin_packet.new.self (requested c.begin_packet.result) (given c.begin_packet.result) (shown c.self.inside.inside) c.args.journal.now.lines c.take_turn.new.journal.lines c.take_turn.result
    refl c.take_turn.ensures.turn c.take_turn.ensures.rests c.begin_packet.ensures)
