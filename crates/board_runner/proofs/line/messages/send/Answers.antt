use Rattle.std.proofs.Common.{refl, arith}
use Rattle.board_model.specs.DomainCall.{send_from}
use Rattle.board_runner.proofs.LineLemmas.{calls_domain, gives_none, lends_none}
use Rattle.board_runner.proofs.line.messages.send.Goals as goal

pub returns : goal.returns
returns c =
    let made = c.msg_send.ensures.call in
    let answered = c.of_unit-answer.ensures in
    calls_domain _ _ _ _ _ _ _ _ _ _ c.reserve.ensures.lines made answered.sent refl (gives_none made.turned_to.state c.args.from.node (send_from c.args.from.port c.args.to c.args.priority c.args.bytes.now) refl) (lends_none made.turned_to.state c.args.from.node (send_from c.args.from.port c.args.to c.args.priority c.args.bytes.now) made.does.lent made.does.lends refl) (omega (arith, answered.no_bytes))
