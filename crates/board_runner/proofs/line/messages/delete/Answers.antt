use Rattle.std.proofs.Common.{refl, arith}
use Rattle.board_model.specs.DomainCall.{delete_at}
use Rattle.board_runner.proofs.LineLemmas.{calls_domain, gives_none, lends_none}
use Rattle.board_runner.proofs.line.messages.delete.Goals as goal

pub returns-clause-call : goal.returns-clause-call
returns-clause-call c =
    let made = c.delete.ensures.call in
    let answered = c.of_number-answer.ensures in
    let call = delete_at c.args.at.port in
    calls_domain _ _ _ _ _ _ _ _ _ _ c.reserve.ensures.lines made answered.deleted refl (gives_none made.turned_to.state c.args.at.node call refl) (lends_none made.turned_to.state c.args.at.node call made.does.lent made.does.lends refl) (omega (arith, answered.no_bytes))
