use Rattle.hop_relay.proofs.LogPackets.{has_packets}
use Rattle.hop_relay.proofs.laws.logs_have_the_packets_of_runs.Goals as goal

pub returns : goal.returns
returns c = has_packets
