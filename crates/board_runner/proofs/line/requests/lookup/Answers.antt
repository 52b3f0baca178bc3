use Rattle.std.proofs.Common.{refl, ◌∙◌, arith}
use Rattle.board_model.specs.DomainCall.{lookup_of}
use Rattle.board_runner.proofs.LineLemmas.{calls_domain, gives_requested, ok_given, lookup_anywhere, lends_none}
use Rattle.board_runner.proofs.line.requests.lookup.Goals as goal

pub returns : goal.returns
returns c node =
    let made = c.lookup-found.ensures.call in
    let answered = c.of_request.ensures in
    let ok = c.ok.ensures.value ∙ ok_given c.lookup-found.result in
    lookup_anywhere node c.args.name _ _ _ _ _ (calls_domain _ _ _ _ _ _ _ _ _ _ c.reserve.ensures.lines made answered.requested ok (gives_requested made.turned_to.state 0 (lookup_of c.args.name) c.lookup-found.result refl refl made.does.answer) (lends_none made.turned_to.state 0 (lookup_of c.args.name) made.does.lent made.does.lends refl) (omega (arith, answered.no_bytes)))
