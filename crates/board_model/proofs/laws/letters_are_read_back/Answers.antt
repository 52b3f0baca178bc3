use Rattle.board_model.proofs.HonestReads.{letter_back}
use Rattle.board_model.proofs.laws.letters_are_read_back.Goals as goal

pub returns : goal.returns
returns c = letter_back
