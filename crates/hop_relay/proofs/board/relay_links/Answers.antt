use Rattle.std.proofs.Common.{◌≡◌, map, ap, ◌∙◌, arith}
use Rattle.hop_relay.specs.RelayBoard.{numbers_below, relay_link}
use Rattle.hop_relay.proofs.NumbersBelow.{next-mapped}
use Rattle.hop_relay.proofs.board.relay_links.Goals as goal

pub loop-driver-preserved : goal.loop-driver-preserved
loop-driver-preserved c = next-mapped (relay_link c.args.size) c.loop-driver.driver c.loop-driver.links.items _ _ c.in_ok-append.ensures c.relay_link.ensures c.loop-driver.invariant

pub returns : goal.returns
returns c =
    let all : c.loop-driver.driver ≡ c.args.hops = omega (arith, c.loop-driver-test.false, c.loop-driver.auto.driver-end) in
    c.loop-driver.invariant ∙ ap (λ n. map (relay_link c.args.size) (numbers_below n)) all
