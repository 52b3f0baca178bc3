use Rattle.std.proofs.Common.{refl, arith}
use Rattle.board_model.specs.DomainCall.{turn_alone}
use Rattle.board_runner.proofs.LineLemmas.{calls_domain, gives_none, lends_none, turn_anywhere}
use Rattle.board_runner.proofs.line.messages.turn.Goals as goal

pub returns : goal.returns
returns c node =
    let made = c.turn.ensures.call in
    let call = turn_alone in
    turn_anywhere node _ _ _ _ _ (calls_domain _ _ _ _ _ _ _ _ _ _ c.reserve.ensures.lines made refl refl (gives_none made.turned_to.state 0 call refl) (lends_none made.turned_to.state 0 call made.does.lent made.does.lends refl) (omega arith))
