use Rattle.board_model.proofs.ChannelLaw.{channels-end-where-named}
use Rattle.board_model.proofs.laws.channels_end_where_named.Goals as goal

pub returns : goal.returns
returns c = channels-end-where-named
