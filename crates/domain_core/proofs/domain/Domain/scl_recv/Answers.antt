use Rattle.std.proofs.Common.{refl, None}
use Rattle.board_model.specs.DomainCall.{scalar_at}
use Rattle.domain_parts.specs.Calls.{available}
use Rattle.domain_parts.specs.Ends.{EndsMoved}
use Rattle.domain_parts.specs.Parts.{shown}
use Rattle.domain_parts.proofs.CallLemmas.{calls-of}
use Rattle.domain_core.proofs.domain.Domain.scl_recv.Goals as goal

pub returns-clause-call : goal.returns-clause-call
returns-clause-call g c =
    rw c.self.view_is at
    (calls-of (EndsMoved g.S.SendEnd.Moved g.R.RecvEnd.Moved) c.args.at.node (scalar_at c.args.at.port c.args.bits) c.take_turn.new.self c.take_scalar.new.self (available c.take_scalar.result) None (shown c.self.inside.inside) c.args.journal.now.lines c.take_turn.new.journal.lines c.take_turn.result
    refl c.take_turn.ensures.turn c.take_turn.ensures.rests c.take_scalar.ensures)
