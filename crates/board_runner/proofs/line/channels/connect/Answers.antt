use Rattle.std.proofs.Common.{refl, arith, ◌+◌}
use Rattle.board_model.specs.DomainCall.{connect_from}
use Rattle.board_runner.proofs.LineLemmas.{calls_domain, gives_connected, lends_none}
use Rattle.board_runner.proofs.line.channels.connect.Goals as goal

pub returns : goal.returns
returns c =
    let made = c.connect-connected.ensures.call in
    let answered = c.of_connect.ensures in
    let call = connect_from c.args.from.port c.args.to c.args.kind in
    calls_domain _ _ _ _ _ _ _ _ _ _ c.reserve.ensures.lines made answered.connected c.request_of.ensures (gives_connected made.turned_to.state c.args.from.node call c.connect-connected.result (made.turned_to.state.channels_given + 1) refl refl made.does.answer) (lends_none made.turned_to.state c.args.from.node call made.does.lent made.does.lends refl) (omega (arith, answered.no_bytes))
