-- The sender's letters go on one lane, in order, and what its receiver takes of them is a front of that lane: each run is an induction of
-- its own.
use Rattle.board_model.proofs.ChannelLaw.{every-channel-is-kept}
use Rattle.board_model.proofs.laws.every_channel_is_kept.Goals as goal

pub returns : goal.returns
returns c = every-channel-is-kept
