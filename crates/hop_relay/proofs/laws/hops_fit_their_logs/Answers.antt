use Rattle.hop_relay.proofs.RelayChannels.{hop_fits}
use Rattle.hop_relay.proofs.laws.hops_fit_their_logs.Goals as goal

pub returns : goal.returns
returns c = hop_fits
