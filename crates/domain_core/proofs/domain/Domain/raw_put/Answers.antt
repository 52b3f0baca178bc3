use Rattle.std.proofs.Common.{None}
use Rattle.board_model.specs.DomainCall.{raw_to}
use Rattle.domain_parts.specs.Calls.{sent}
use Rattle.domain_parts.specs.Ends.{EndsMoved}
use Rattle.domain_parts.specs.Parts.{shown}
use Rattle.domain_parts.proofs.CallLemmas.{calls-put}
use Rattle.domain_core.proofs.domain.Domain.raw_put.Goals as goal

pub returns-clause-call : goal.returns-clause-call
returns-clause-call g c =
    rw c.self.view_is at
    (calls-put (EndsMoved g.S.SendEnd.Moved g.R.RecvEnd.Moved) 0 (raw_to c.args.peer c.args.frame.now) c.take_turn.new.self c.put_raw.new.self (sent c.put_raw.result) None (shown c.self.inside.inside)
    c.args.journal.now.lines c.take_turn.new.journal.lines c.take_turn.result c.put_raw.new.journal.lines c.take_turn.ensures.turn c.take_turn.ensures.rests c.put_raw.ensures.acts c.put_raw.ensures.told)
