use Rattle.std.proofs.Common.{◌≡◌, sym, subst, arith}
use Rattle.hop_relay.specs.declared.role.Role.{Role}
use Rattle.hop_relay.specs.NextLines.{contents}
use Rattle.hop_relay.specs.RelayActors.{AreNew, IsNew}
use Rattle.hop_relay.specs.RelayBoard.{numbers_below}
use Rattle.hop_relay.specs.Steps.{packet_limit}
use Rattle.hop_relay.proofs.RelayRuns.{next-new}
use Rattle.hop_relay.proofs.RoleNumbers.{is_between, last_is}
use Rattle.hop_relay.proofs.run.relay_actors.Goals as goal

pub loop-domain-preserved : goal.loop-domain-preserved
loop-domain-preserved c =
    let packets = contents c.args.packets.items in
    let hops = c.args.hops in
    let d = c.loop-domain.domain in
    let a = c.in_ok-middle.field-0 in
    next-new packets hops d c.loop-domain.actors.items _ a c.in_ok-append-2.ensures c.loop-domain.invariant
    (subst (λ (r : Role). IsNew r a) (sym (is_between packets hops packet_limit d (omega (arith, c.loop-domain.auto.domain)) c.loop-domain-test.true)) c.in_ok-middle.ensures)

pub returns : goal.returns
returns c =
    let packets = contents c.args.packets.items in
    let hops = c.args.hops in
    let a = c.in_ok-last.field-0 in
    let all : c.loop-domain.domain ≡ hops = omega (arith, c.loop-domain-test.false, c.loop-domain.auto.domain-end, c.requires.some) in
    next-new packets hops hops c.loop-domain.actors.items _ a c.in_ok-append-3.ensures (subst (λ n. AreNew packets hops (numbers_below n) c.loop-domain.actors.items) all c.loop-domain.invariant)
    (subst (λ (r : Role). IsNew r a) (sym (last_is packets hops packet_limit c.requires.some)) c.in_ok-last.ensures)
