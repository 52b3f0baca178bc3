use Rattle.std.proofs.Common.{◌≡◌, ◌+◌, map, ap, ◌∙◌, arith}
use Rattle.call_service.specs.Served.{rising}
use Rattle.call_actor.specs.CallsBoards.{call_domain}
use Rattle.call_actor.proofs.RisingNumbers.{next-mapped}
use Rattle.call_actor.proofs.board.call_domains.Goals as goal

pub loop-domain-preserved : goal.loop-domain-preserved
loop-domain-preserved c =
    let place : c.loop-domain.domain ≡ 0 + c.loop-domain.domain = omega arith in
    next-mapped call_domain 0 c.loop-domain.domain c.loop-domain.domains.items _ _ c.in_ok-append.ensures (c.call_domain.ensures ∙ ap call_domain place) c.loop-domain.invariant

pub returns : goal.returns
returns c =
    let all : c.loop-domain.domain ≡ c.args.count = omega (arith, c.loop-domain-test.false, c.loop-domain.auto.domain-end) in
    c.loop-domain.invariant ∙ ap (λ n. map call_domain (rising 0 n)) all
