use Rattle.board_model.specs.DomainCall.{connect_from}
use Rattle.domain_parts.specs.Calls.{connected, given_by}
use Rattle.domain_parts.specs.Ends.{EndsMoved}
use Rattle.domain_parts.specs.Parts.{shown}
use Rattle.domain_parts.proofs.CallLemmas.{calls-put}
use Rattle.domain_core.proofs.domain.Domain.connect.Goals as goal

pub returns-clause-call : goal.returns-clause-call
returns-clause-call g c =
    rw c.self.view_is at
    (calls-put (EndsMoved g.S.SendEnd.Moved g.R.RecvEnd.Moved) c.args.from.node (connect_from c.args.from.port c.args.to c.args.kind) c.take_turn.new.self c.begin_connect.new.self (connected c.begin_connect.result) (given_by c.begin_connect.result) (shown c.self.inside.inside)
    c.args.journal.now.lines c.take_turn.new.journal.lines c.take_turn.result c.begin_connect.new.journal.lines c.take_turn.ensures.turn c.take_turn.ensures.rests c.begin_connect.ensures.acts c.begin_connect.ensures.told)
