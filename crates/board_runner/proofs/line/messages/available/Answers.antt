use Rattle.std.proofs.Common.{refl, arith}
use Rattle.board_model.specs.DomainCall.{available_at}
use Rattle.board_runner.proofs.LineLemmas.{calls_domain, gives_none, lends_none}
use Rattle.board_runner.proofs.line.messages.available.Goals as goal

pub returns : goal.returns
returns c =
    let made = c.msg_available.ensures.call in
    let answered = c.of_number-answer.ensures in
    let call = available_at c.args.at.port in
    calls_domain _ _ _ _ _ _ _ _ _ _ c.reserve.ensures.lines made answered.available refl (gives_none made.turned_to.state c.args.at.node call refl) (lends_none made.turned_to.state c.args.at.node call made.does.lent made.does.lends refl) (omega (arith, answered.no_bytes))
