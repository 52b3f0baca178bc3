use Rattle.hop_relay.proofs.RelayChannels.{unnumbered_empty}
use Rattle.hop_relay.proofs.laws.unnumbered_channels_are_empty.Goals as goal

pub returns : goal.returns
returns c = unnumbered_empty
