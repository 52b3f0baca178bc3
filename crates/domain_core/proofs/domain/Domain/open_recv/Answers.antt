use Rattle.std.proofs.Common.{None}
use Rattle.mc_base.specs.declared.channel.Side.TheVariants.{Receiver}
use Rattle.board_model.specs.DomainCall.{open_at}
use Rattle.domain_parts.specs.Calls.{sent}
use Rattle.domain_parts.specs.Ends.{EndsMoved}
use Rattle.domain_parts.specs.Parts.{shown}
use Rattle.domain_parts.proofs.CallLemmas.{calls-put}
use Rattle.domain_core.proofs.domain.Domain.open_recv.Goals as goal

pub returns-clause-call : goal.returns-clause-call
returns-clause-call g c =
    rw c.self.view_is at
    (calls-put (EndsMoved g.S.SendEnd.Moved g.R.RecvEnd.Moved) c.args.at.node (open_at c.args.at.port Receiver c.args.kind) c.take_turn.new.self c.open_end.new.self (sent c.open_end.result) None (shown c.self.inside.inside)
    c.args.journal.now.lines c.take_turn.new.journal.lines c.take_turn.result c.open_end.new.journal.lines c.take_turn.ensures.turn c.take_turn.ensures.rests c.open_end.ensures.acts c.open_end.ensures.told)
