use Rattle.std.proofs.Common.{None, refl, subst}
use Rattle.board_model.specs.DomainCall.{release_of}
use Rattle.domain_parts.specs.Calls.{Calls, sent}
use Rattle.domain_parts.specs.Ends.{EndsMoved}
use Rattle.domain_parts.specs.DomainView.{place_of_packet_id}
use Rattle.domain_parts.specs.Parts.{shown}
use Rattle.domain_parts.proofs.CallLemmas.{calls-of}
use Rattle.domain_core.proofs.domain.Domain.release.Goals as goal

pub returns-clause-call : goal.returns-clause-call
returns-clause-call g c =
    let M = EndsMoved g.S.SendEnd.Moved g.R.RecvEnd.Moved in
    let old = shown c.self.inside.inside in
    let call = release_of (place_of_packet_id (shown c.take_turn.new.self).packets c.args.id) in
    let calls = calls-of M 0 call c.take_turn.new.self c.end_packet.new.self (sent c.end_packet.result) None old c.args.journal.now.lines c.take_turn.new.journal.lines c.take_turn.result refl c.take_turn.ensures.turn c.take_turn.ensures.rests c.end_packet.ensures in
    subst (λ x. Calls M 0 (release_of (place_of_packet_id x.packets c.args.id)) x (shown c.end_packet.new.self) c.args.journal.now.lines c.take_turn.new.journal.lines (sent c.end_packet.result) None) c.self.view_is
    (subst (λ ids. Calls M 0 (release_of (place_of_packet_id ids c.args.id)) old (shown c.end_packet.new.self) c.args.journal.now.lines c.take_turn.new.journal.lines (sent c.end_packet.result) None) c.take_turn.ensures.turn.turns.packets calls)
