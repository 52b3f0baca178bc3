use Rattle.std.proofs.Common.{refl, arith, ap, sym, ◌∙◌, Some}
use Rattle.board_model.specs.DomainCall.{lend_at}
use Rattle.board_runner.proofs.LineLemmas.{calls_domain, gives_none, lends_added, refused_lends, whole_told}
use Rattle.domain_core.specs.Calls.{lent}
use Rattle.domain_core.specs.DomainView.{packet_lent_as}
use Rattle.board_runner.proofs.line.items.receive_packet.Goals as goal

pub returns-in-Ok : goal.returns-in-Ok
returns-in-Ok c =
    let made = c.pkt_recv.ensures.call in
    let call = lend_at c.args.at.port in
    let copied = c.copy_packet.ensures in
    let told = c.of_packet.ensures in
    let s = made.turned_to.state in
    calls_domain _ _ _ _ _ _ _ _ _ _ c.reserve.ensures.lines made (whole_told _ _ _ _ copied.bytes copied.within copied.refused.0 copied.refused.1 copied.word told.given told.refused ∙ sym (ap (λ r. lent r (packet_lent_as c.pkt_recv.new.self)) c.in-Ok.is)) refl (gives_none s c.args.at.node call refl)
    (lends_added s c.args.at.node call c.args.domain.now.packets made.turned_to.packets c.pkt_recv.new.self.packets made.does.lent (Some c.in-Ok.packet) refl made.turns.packets made.does.packets c.in-Ok.ensures.lent) (omega (arith, told.within, c.requires, c.copy_packet.auto.out))

pub returns-in-Err : goal.returns-in-Err
returns-in-Err c =
    let made = c.pkt_recv.ensures.call in
    let call = lend_at c.args.at.port in
    let s = made.turned_to.state in
    calls_domain _ _ _ _ _ _ _ _ _ _ c.reserve.ensures.lines made (sym (ap (λ r. lent r (packet_lent_as c.pkt_recv.new.self)) c.in-Err.is)) refl (gives_none s c.args.at.node call refl)
    (refused_lends s c.args.at.node call c.in-Err.word made.does.lent made.does.lends (sym (ap (λ r. lent r (packet_lent_as c.pkt_recv.new.self)) c.in-Err.is) ∙ made.does.answer)) (omega arith)
