use Rattle.board_model.proofs.JournalPartsJoined.{parts_are_joined}
use Rattle.board_model.proofs.journal_laws.parts_are_joined.Goals as goal

pub returns : goal.returns
returns c = parts_are_joined
