use Rattle.std.proofs.Common.{◌≤◌, length}
use Rattle.mc_base.specs.Limits.{item_size}
use Rattle.hop_relay.proofs.GoesLemmas.{still_all}
use Rattle.hop_relay.proofs.first.First.next_packet.Goals as goal

pub invariant_of-self : goal.invariant_of-self
invariant_of-self c = record { sizes = still_all (λ p. length p.items ≤ item_size) c.take.result c.args.self.now.packets c.take.new.self c.take.ensures c.args.self.now.sizes }
