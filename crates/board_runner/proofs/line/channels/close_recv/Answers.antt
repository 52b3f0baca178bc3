use Rattle.std.proofs.Common.{refl, arith}
use Rattle.mc_base.specs.declared.channel.Side.TheVariants.{Receiver}
use Rattle.board_model.specs.DomainCall.{close_at}
use Rattle.board_runner.proofs.LineLemmas.{calls_domain, gives_none, lends_none}
use Rattle.board_runner.proofs.line.channels.close_recv.Goals as goal

pub returns : goal.returns
returns c =
    let made = c.close_recv.ensures.call in
    let answered = c.of_number-answer.ensures in
    calls_domain _ _ _ _ _ _ _ _ _ _ c.reserve.ensures.lines made answered.deleted refl (gives_none made.turned_to.state c.args.at.node (close_at c.args.at.port Receiver) refl) (lends_none made.turned_to.state c.args.at.node (close_at c.args.at.port Receiver) made.does.lent made.does.lends refl) (omega (arith, answered.no_bytes))
