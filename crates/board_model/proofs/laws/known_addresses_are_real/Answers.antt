use Rattle.board_model.proofs.HonestBoard.{all_know_real}
use Rattle.board_model.proofs.NamesHad.{all_know_had}
use Rattle.board_model.proofs.laws.known_addresses_are_real.Goals as goal

pub returns : goal.returns
returns c = λ s js board run. (all_know_real s js board run, all_know_had s js board run)
