use Rattle.std.proofs.Common.{refl, ◌∙◌, arith}
use Rattle.board_model.specs.DomainCall.{request_at}
use Rattle.board_runner.proofs.LineLemmas.{calls_domain, gives_requested, ok_given, lends_none}
use Rattle.board_runner.proofs.line.requests.request.Goals as goal

pub returns : goal.returns
returns c =
    let made = c.msg_recv_i-requested.ensures.call in
    let answered = c.of_request.ensures in
    let ok = c.ok.ensures.value ∙ ok_given c.msg_recv_i-requested.result in
    calls_domain _ _ _ _ _ _ _ _ _ _ c.reserve.ensures.lines made answered.requested ok (gives_requested made.turned_to.state c.args.at.node (request_at c.args.at.port c.args.max) c.msg_recv_i-requested.result refl refl made.does.answer) (lends_none made.turned_to.state c.args.at.node (request_at c.args.at.port c.args.max) made.does.lent made.does.lends refl) (omega (arith, answered.no_bytes))
