use Rattle.board_model.proofs.LogLines.{lines_keep_answers}
use Rattle.board_model.proofs.journal_laws.lines_keep_answers.Goals as goal

pub returns : goal.returns
returns c = lines_keep_answers
