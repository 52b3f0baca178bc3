use Rattle.std.proofs.Common.{◌≡◌, map}
use Rattle.hop_relay.specs.RelayBoard.{numbers_below, relay_domain}
use Rattle.hop_relay.proofs.board.relay_domains.Given as goal

abbrev pub invariant-loop-domain : goal.invariant-loop-domain
invariant-loop-domain l = l.domains.items ≡ map relay_domain (numbers_below l.domain)
