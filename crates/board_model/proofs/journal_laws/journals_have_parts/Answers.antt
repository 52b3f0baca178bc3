use Rattle.board_model.proofs.JournalHaveParts.{journals_have_parts}
use Rattle.board_model.proofs.journal_laws.journals_have_parts.Goals as goal

pub returns : goal.returns
returns c = journals_have_parts
