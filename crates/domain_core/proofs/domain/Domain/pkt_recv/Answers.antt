use Rattle.std.proofs.Common.{◌≡◌, ◌∙◌, ◌++◌, ◌∷◌, [], List, None, ap, refl, subst}
use Rattle.std.specs.Prelude.{IfOk}
use Rattle.mc_base.specs.declared.request.PacketId.{PacketId}
use Rattle.board_model.specs.DomainCall.{lend_at}
use Rattle.domain_parts.specs.Calls.{lent}
use Rattle.domain_parts.specs.DomainView.{packet_lent_as}
use Rattle.domain_parts.specs.Ends.{EndsMoved}
use Rattle.domain_parts.specs.Parts.{shown}
use Rattle.domain_parts.proofs.CallLemmas.{calls-of}
use Rattle.domain_core.proofs.domain.Domain.pkt_recv.Goals as goal

pub returns-clause-call : goal.returns-clause-call
returns-clause-call g c =
    rw c.self.view_is at
    (calls-of (EndsMoved g.S.SendEnd.Moved g.R.RecvEnd.Moved) c.args.at.node (lend_at c.args.at.port) c.take_turn.new.self c.take_packet.new.self (lent c.take_packet.result (packet_lent_as (shown c.take_packet.new.self))) None (shown c.self.inside.inside) c.args.journal.now.lines c.take_turn.new.journal.lines c.take_turn.result
    refl c.take_turn.ensures.turn c.take_turn.ensures.rests c.take_packet.ensures.acts)

pub returns-clause-lent : goal.returns-clause-lent
returns-clause-lent g c =
    subst (λ x. IfOk c.take_packet.result (λ id. (shown c.take_packet.new.self).packets ≡ x.packets ++ id ∷ [])) c.self.view_is
    (subst (λ (ids : List PacketId). IfOk c.take_packet.result (λ id. (shown c.take_packet.new.self).packets ≡ ids ++ id ∷ [])) c.take_turn.ensures.turn.turns.packets c.take_packet.ensures.lent)
