use Rattle.hop_relay.proofs.RelayOrder.{keeps_order}
use Rattle.hop_relay.proofs.laws.relays_keep_order.Goals as goal

pub returns : goal.returns
returns c packets hops size most s js some run = keeps_order packets hops size most s js run some
