use Rattle.std.proofs.Common.{◌≡◌, ◌∙◌, sym, refl, rules, subst}
use Rattle.std.specs.Prelude.{Err}
use Rattle.board_model.specs.DomainCall.{packet_request_at}
use Rattle.packet_channel.specs.End.{end_of}
use Rattle.domain_parts.specs.Calls.{given, requested}
use Rattle.domain_parts.specs.CallSteps.{Acts}
use Rattle.domain_parts.specs.Parts.{state_of}
use Rattle.domain_parts.proofs.PacketWords.{request-refused}
use Rattle.domain_parts.proofs.Stepping.{acts-refused}
use Rattle.domain_parts.proofs.holdings.Holdings.begin_packet.Goals as goal

pub returns-in_err-may_recv : goal.returns-in_err-may_recv
returns-in_err-may_recv g c =
    let old = c.args.self.now in
    let M = g.P.PeerLane.Moved in
    let call = packet_request_at c.args.at.port in
    let word = c.in_err-may_recv.field-0.0 in
    let refused = request-refused (state_of old.parts) c.args.at c.in-Some.place (end_of c.in-Some-channel_at.channel) (sym c.in-Some.ensures.place) (sym c.in-Some-channel_at.ensures.there) c.count_at.result c.count_at.ensures.count word (sym c.in_err-may_recv.was ∙ c.may_recv.ensures) in
    let answers : c.from_residual.result ≡ Err word = search rules in
    subst (λ x. Acts M c.args.at.node call old old (requested x) (given x)) (sym answers)
    (acts-refused M c.args.at.node call old old word refused refl)
