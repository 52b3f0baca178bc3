use Rattle.std.proofs.Common.{refl, arith}
use Rattle.board_model.specs.DomainCall.{cancel_of}
use Rattle.domain_core.specs.DomainView.{place_of_id}
use Rattle.board_runner.proofs.LineLemmas.{calls_domain, gives_none, lends_none, cancel_anywhere}
use Rattle.board_runner.proofs.line.requests.cancel.Goals as goal

pub returns : goal.returns
returns c node =
    let made = c.cancel.ensures.call in
    let answered = c.of_unit-answer.ensures in
    let call = cancel_of (place_of_id c.args.domain.now.ids c.args.id) in
    cancel_anywhere node _ _ _ _ _ _ (calls_domain _ _ _ _ _ _ _ _ _ _ c.reserve.ensures.lines made answered.cancelled refl (gives_none made.turned_to.state 0 call refl) (lends_none made.turned_to.state 0 call made.does.lent made.does.lends refl) (omega (arith, answered.no_bytes)))
