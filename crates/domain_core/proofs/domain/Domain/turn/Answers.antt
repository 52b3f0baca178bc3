use Rattle.std.proofs.Common.{refl, None}
use Rattle.board_model.specs.DomainCall.{turn_alone}
use Rattle.board_model.specs.Journal.{agrees}
use Rattle.domain_parts.specs.Ends.{EndsMoved}
use Rattle.domain_parts.specs.Parts.{shown}
use Rattle.domain_parts.proofs.CallLemmas.{calls-of, turn-acts}
use Rattle.domain_core.proofs.domain.Domain.turn.Goals as goal

pub returns-clause-call : goal.returns-clause-call
returns-clause-call g c =
    let M = EndsMoved g.S.SendEnd.Moved g.R.RecvEnd.Moved in
    let h = c.take_turn.new.self in
    rw c.self.view_is at
    (calls-of M 0 turn_alone h h agrees None (shown c.self.inside.inside) c.args.journal.now.lines c.take_turn.new.journal.lines c.take_turn.result
    refl c.take_turn.ensures.turn c.take_turn.ensures.rests (turn-acts M h c.take_turn.ensures.rests))

pub returns-clause-turn : goal.returns-clause-turn
returns-clause-turn g c = rw c.self.view_is at c.take_turn.ensures.turn
