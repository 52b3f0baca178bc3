use Rattle.hop_relay.proofs.HopLemmas.{is_hop}
use Rattle.hop_relay.proofs.laws.middle_logs_are_hops.Goals as goal

pub returns : goal.returns
returns c = is_hop
