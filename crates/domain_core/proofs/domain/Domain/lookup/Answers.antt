use Rattle.std.proofs.Common.{refl}
use Rattle.board_model.specs.DomainCall.{lookup_of}
use Rattle.domain_parts.specs.Calls.{given, requested}
use Rattle.domain_parts.specs.Ends.{EndsMoved}
use Rattle.domain_parts.specs.Parts.{shown}
use Rattle.domain_parts.proofs.CallLemmas.{calls-of}
use Rattle.domain_core.proofs.domain.Domain.lookup.Goals as goal

pub returns-clause-call : goal.returns-clause-call
returns-clause-call g c =
    rw c.self.view_is at
    (calls-of (EndsMoved g.S.SendEnd.Moved g.R.RecvEnd.Moved) 0 (lookup_of c.args.name) c.take_turn.new.self c.begin_lookup.new.self (requested c.begin_lookup.result) (given c.begin_lookup.result) (shown c.self.inside.inside) c.args.journal.now.lines c.take_turn.new.journal.lines c.take_turn.result
    refl c.take_turn.ensures.turn c.take_turn.ensures.rests c.begin_lookup.ensures)
