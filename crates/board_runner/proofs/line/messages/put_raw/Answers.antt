use Rattle.std.proofs.Common.{refl, arith}
use Rattle.board_model.specs.DomainCall.{raw_to}
use Rattle.board_runner.proofs.LineLemmas.{calls_domain, gives_none, lends_none, raw_anywhere}
use Rattle.board_runner.proofs.line.messages.put_raw.Goals as goal

pub returns : goal.returns
returns c node =
    let made = c.raw_put.ensures.call in
    let answered = c.of_unit-answer.ensures in
    let call = raw_to c.args.peer c.args.frame.now in
    raw_anywhere node _ _ _ _ _ _ _ (calls_domain _ _ _ _ _ _ _ _ _ _ c.reserve.ensures.lines made answered.sent refl (gives_none made.turned_to.state 0 call refl) (lends_none made.turned_to.state 0 call made.does.lent made.does.lends refl) (omega (arith, answered.no_bytes)))
