use Rattle.std.proofs.Common.{refl, arith}
use Rattle.board_model.specs.DomainCall.{release_of}
use Rattle.domain_core.specs.DomainView.{place_of_packet_id}
use Rattle.board_runner.proofs.LineLemmas.{calls_domain, gives_none, lends_none, release_anywhere}
use Rattle.board_runner.proofs.line.items.release.Goals as goal

pub returns : goal.returns
returns c node =
    let made = c.release.ensures.call in
    let answered = c.of_unit-answer.ensures in
    let call = release_of (place_of_packet_id c.args.domain.now.packets c.args.packet) in
    release_anywhere node _ _ _ _ _ _ (calls_domain _ _ _ _ _ _ _ _ _ _ c.reserve.ensures.lines made answered.sent refl (gives_none made.turned_to.state 0 call refl) (lends_none made.turned_to.state 0 call made.does.lent made.does.lends refl) (omega (arith, answered.no_bytes)))
