use Rattle.std.proofs.Common.{None}
use Rattle.board_model.specs.DomainCall.{scalar_from}
use Rattle.domain_parts.specs.Calls.{sent}
use Rattle.domain_parts.specs.Ends.{EndsMoved}
use Rattle.domain_parts.specs.Parts.{shown}
use Rattle.domain_parts.proofs.CallLemmas.{calls-put}
use Rattle.domain_core.proofs.domain.Domain.scl_send.Goals as goal

pub returns-clause-call : goal.returns-clause-call
returns-clause-call g c =
    rw c.self.view_is at
    (calls-put (EndsMoved g.S.SendEnd.Moved g.R.RecvEnd.Moved) c.args.at.node (scalar_from c.args.at.port c.args.bits c.args.value) c.take_turn.new.self c.put_scalar.new.self (sent c.put_scalar.result) None (shown c.self.inside.inside)
    c.args.journal.now.lines c.take_turn.new.journal.lines c.take_turn.result c.put_scalar.new.journal.lines c.take_turn.ensures.turn c.take_turn.ensures.rests c.put_scalar.ensures.acts c.put_scalar.ensures.told)
