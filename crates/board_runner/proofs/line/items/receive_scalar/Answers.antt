use Rattle.std.proofs.Common.{refl, arith}
use Rattle.board_model.specs.DomainCall.{scalar_at}
use Rattle.board_runner.proofs.LineLemmas.{calls_domain, gives_none, lends_none}
use Rattle.board_runner.proofs.line.items.receive_scalar.Goals as goal

pub returns : goal.returns
returns c =
    let made = c.scl_recv.ensures.call in
    let answered = c.of_scalar-answer.ensures in
    let call = scalar_at c.args.at.port c.args.bits in
    calls_domain _ _ _ _ _ _ _ _ _ _ c.reserve.ensures.lines made answered.received refl (gives_none made.turned_to.state c.args.at.node call refl) (lends_none made.turned_to.state c.args.at.node call made.does.lent made.does.lends refl) (omega (arith, answered.no_bytes))
