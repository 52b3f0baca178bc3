use Rattle.std.proofs.Common.{refl, arith, length}
use Rattle.board_model.specs.DomainCall.{receive_at}
use Rattle.board_runner.proofs.LineLemmas.{calls_domain, gives_none, lends_none}
use Rattle.board_runner.proofs.line.messages.receive.Goals as goal

pub returns : goal.returns
returns c =
    let made = c.msg_recv-received.ensures.call in
    let answered = c.of_receive.ensures in
    let call = receive_at c.args.at.port (length c.args.out.now) in
    calls_domain _ _ _ _ _ _ _ _ _ _ c.reserve.ensures.lines made answered.received refl (gives_none made.turned_to.state c.args.at.node call refl) (lends_none made.turned_to.state c.args.at.node call made.does.lent made.does.lends refl) (omega (arith, answered.within, c.requires, c.msg_recv-received.auto.out))
