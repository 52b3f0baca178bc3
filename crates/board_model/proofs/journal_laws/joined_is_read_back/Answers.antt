use Rattle.board_model.proofs.JournalReadBack.{joined_is_read_back}
use Rattle.board_model.proofs.journal_laws.joined_is_read_back.Goals as goal

pub returns : goal.returns
returns c = joined_is_read_back
