use Rattle.std.proofs.Common.{refl, arith}
use Rattle.board_model.specs.DomainCall.{scalar_from}
use Rattle.board_runner.proofs.LineLemmas.{calls_domain, gives_none, lends_none}
use Rattle.board_runner.proofs.line.items.send_scalar.Goals as goal

pub returns : goal.returns
returns c =
    let made = c.scl_send.ensures.call in
    let answered = c.of_unit-answer.ensures in
    let call = scalar_from c.args.at.port c.args.bits c.args.value in
    calls_domain _ _ _ _ _ _ _ _ _ _ c.reserve.ensures.lines made answered.sent refl (gives_none made.turned_to.state c.args.at.node call refl) (lends_none made.turned_to.state c.args.at.node call made.does.lent made.does.lends refl) (omega (arith, answered.no_bytes))
