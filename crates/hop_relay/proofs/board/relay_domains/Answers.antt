use Rattle.std.proofs.Common.{◌≡◌, map, ap, ◌∙◌, arith}
use Rattle.hop_relay.specs.RelayBoard.{numbers_below, relay_domain}
use Rattle.hop_relay.proofs.NumbersBelow.{next-mapped}
use Rattle.hop_relay.proofs.board.relay_domains.Goals as goal

pub loop-domain-preserved : goal.loop-domain-preserved
loop-domain-preserved c = next-mapped relay_domain c.loop-domain.domain c.loop-domain.domains.items _ _ c.in_ok-append.ensures c.relay_domain.ensures c.loop-domain.invariant

pub returns : goal.returns
returns c =
    let all : c.loop-domain.domain ≡ c.args.count = omega (arith, c.loop-domain-test.false, c.loop-domain.auto.domain-end) in
    c.loop-domain.invariant ∙ ap (λ n. map relay_domain (numbers_below n)) all
