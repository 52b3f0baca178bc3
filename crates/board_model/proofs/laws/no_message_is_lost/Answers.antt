-- Lane by lane, the messages of the frames put are those of the frames taken and of those in the ring. Domain by domain, by
-- induction over its deeds, those taken were received or dropped, or are queued.
use Rattle.board_model.proofs.KeptBoard.{no-message-lost}
use Rattle.board_model.proofs.laws.no_message_is_lost.Goals as goal

pub returns : goal.returns
returns c = λ s js board run. no-message-lost s js board run
