use Rattle.std.proofs.Common.{◌≡◌, ◌∙◌, List, None, ap, arith, sym, refl, subst, rules, take}
use Rattle.board_model.specs.Choice.{oldest}
use Rattle.std.specs.Prelude.{Err}
use Rattle.board_model.specs.DomainCall.{scalar_at}
use Rattle.board_model.specs.Journal.{tells}
use Rattle.board_model.specs.State.{queue_at}
use Rattle.packet_channel.specs.End.{end_of}
use Rattle.domain_parts.specs.Calls.{available}
use Rattle.domain_parts.specs.CallSteps.{Acts}
use Rattle.domain_parts.specs.Parts.{state_of}
use Rattle.domain_parts.specs.Records.{slots_at}
use Rattle.domain_parts.specs.Steps.{Did, Step}
use Rattle.domain_parts.proofs.DataMeaning.{front-value, front-whole, scalar-done, scalar-fits, scalar-means, scalar-refused, scalar-steps}
use Rattle.domain_parts.proofs.Steps.{first-there}
use Rattle.domain_parts.proofs.Stepping.{acts-done, acts-refused}
use Rattle.domain_parts.proofs.holdings.Holdings.take_scalar.Goals as goal

-- ---- it is refused

pub returns-in_err-may_recv : goal.returns-in_err-may_recv
returns-in_err-may_recv g c =
    let old = c.args.self.now in
    let call = scalar_at c.args.at.port c.args.bits in
    let word = c.in_err-may_recv.field-0.0 in
    let refused = scalar-refused (state_of old.parts) c.args.at c.in-Some.place (end_of c.in-Some-channel_at.channel) (sym c.in-Some.ensures.place) (sym c.in-Some-channel_at.ensures.there) c.args.bits c.count_at.result c.count_at.ensures.count word (sym c.in_err-may_recv.was ∙ c.may_recv.ensures) in
    let answers : c.from_residual.result ≡ Err word = search rules in
    subst (λ x. Acts g.P.PeerLane.Moved c.args.at.node call old old (available x) None) (sym answers)
    (acts-refused g.P.PeerLane.Moved c.args.at.node call old old word refused refl)

-- ---- it is received

pub returns : goal.returns
returns g c =
    let M = g.P.PeerLane.Moved in
    let old = c.args.self.now in
    let new = c.drop_oldest.new.self in
    let s = state_of old.parts in
    let at = c.args.at in
    let i = c.in-Some.place in
    let call = scalar_at at.port c.args.bits in
    let there = sym c.in-Some.ensures.place in
    let bs = take c.in-Some-front.got.given c.front.new.out in
    let is = front-whole (oldest (queue_at s at)) c.in-Some-front.got.size bs c.in-Some-front.ensures.size c.in-Some-front.ensures.bytes (omega (arith, c.if-got-gt8.false)) in
    let fits = scalar-fits at.port c.args.bits bs c.in-Ok.value c.in-Ok.ensures in
    let unrefused = scalar-done s at i (end_of c.in-Some-channel_at.channel) there (sym c.in-Some-channel_at.ensures.there) c.args.bits c.count_at.result c.count_at.ensures.count (sym c.in_ok-may_recv.was ∙ c.may_recv.ensures) bs is fits.0 in
    let dropped = c.drop_oldest.ensures.did in
    let first = first-there old.parts i dropped.0 (slots_at new.parts.records i) dropped.1 in
    let steps = sym (scalar-steps old.parts c.in-Some.ensures.sound at i there dropped.0 first c.args.bits) in
    acts-done M at.node call old new (tells c.in-Ok.value) None unrefused
    (ap tells fits.1 ∙ sym (front-value at.port c.args.bits (queue_at s at) bs is))
    (record {
      did = subst (λ (cs : List Step). Did M cs old new) steps dropped.2;
      means = scalar-means old.parts c.in-Some.ensures.sound at i there dropped.0 first c.args.bits;
    })
