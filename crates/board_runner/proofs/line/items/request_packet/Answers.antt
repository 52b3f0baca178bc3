use Rattle.std.proofs.Common.{refl, ◌∙◌, arith}
use Rattle.board_model.specs.DomainCall.{packet_request_at}
use Rattle.board_runner.proofs.LineLemmas.{calls_domain, gives_requested, lends_none, ok_given}
use Rattle.board_runner.proofs.line.items.request_packet.Goals as goal

pub returns : goal.returns
returns c =
    let made = c.pkt_recv_i-requested.ensures.call in
    let answered = c.of_request.ensures in
    let call = packet_request_at c.args.at.port in
    let ok = c.ok.ensures.value ∙ ok_given c.pkt_recv_i-requested.result in
    calls_domain _ _ _ _ _ _ _ _ _ _ c.reserve.ensures.lines made answered.requested ok (gives_requested made.turned_to.state c.args.at.node call c.pkt_recv_i-requested.result refl refl made.does.answer) (lends_none made.turned_to.state c.args.at.node call made.does.lent made.does.lends refl) (omega (arith, answered.no_bytes))
