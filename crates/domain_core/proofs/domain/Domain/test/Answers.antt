use Rattle.std.proofs.Common.{List, None, refl, subst}
use Rattle.std.specs.Prelude.{IfOk}
use Rattle.mc_base.specs.declared.request.PacketId.{PacketId}
use Rattle.board_model.specs.DomainCall.{test_of}
use Rattle.domain_parts.specs.Calls.{Calls, LendsLast, tested}
use Rattle.domain_parts.specs.Ends.{EndsMoved}
use Rattle.domain_parts.specs.DomainView.{packet_lent_as, place_of_id}
use Rattle.domain_parts.specs.Parts.{shown}
use Rattle.domain_parts.proofs.CallLemmas.{calls-of}
use Rattle.domain_core.proofs.domain.Domain.test.Goals as goal

pub returns-clause-call : goal.returns-clause-call
returns-clause-call g c =
    let M = EndsMoved g.S.SendEnd.Moved g.R.RecvEnd.Moved in
    let old = shown c.self.inside.inside in
    let call = test_of (place_of_id (shown c.take_turn.new.self).ids c.args.id) in
    let calls = calls-of M 0 call c.take_turn.new.self c.end_request.new.self (tested c.end_request.result c.end_request.new.out (packet_lent_as (shown c.end_request.new.self))) None old c.args.journal.now.lines c.take_turn.new.journal.lines c.take_turn.result refl c.take_turn.ensures.turn c.take_turn.ensures.rests c.end_request.ensures.acts in
    subst (λ x. Calls M 0 (test_of (place_of_id x.ids c.args.id)) x (shown c.end_request.new.self) c.args.journal.now.lines c.take_turn.new.journal.lines (tested c.end_request.result c.end_request.new.out (packet_lent_as (shown c.end_request.new.self))) None) c.self.view_is
    (subst (λ ids. Calls M 0 (test_of (place_of_id ids c.args.id)) old (shown c.end_request.new.self) c.args.journal.now.lines c.take_turn.new.journal.lines (tested c.end_request.result c.end_request.new.out (packet_lent_as (shown c.end_request.new.self))) None) c.take_turn.ensures.turn.turns.ids calls)

pub returns-clause-lent : goal.returns-clause-lent
returns-clause-lent g c =
    subst (λ x. IfOk c.end_request.result (LendsLast x.packets (shown c.end_request.new.self).packets)) c.self.view_is
    (subst (λ (ids : List PacketId). IfOk c.end_request.result (LendsLast ids (shown c.end_request.new.self).packets)) c.take_turn.ensures.turn.turns.packets c.end_request.ensures.lent)
