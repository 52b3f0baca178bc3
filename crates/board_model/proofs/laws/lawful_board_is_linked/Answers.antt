use Rattle.board_model.proofs.LawfulBoards.{lawful_is_linked}
use Rattle.board_model.proofs.laws.lawful_board_is_linked.Goals as goal

pub returns : goal.returns
returns c = lawful_is_linked
