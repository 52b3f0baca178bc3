use Rattle.std.proofs.Common.{◌≡◌, map}
use Rattle.hop_relay.specs.RelayBoard.{numbers_below, relay_link}
use Rattle.hop_relay.proofs.board.relay_links.Given as goal

abbrev pub invariant-loop-driver : goal.invariant-loop-driver
invariant-loop-driver l = l.links.items ≡ map (relay_link l.size) (numbers_below l.driver)
