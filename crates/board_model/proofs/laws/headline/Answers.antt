use Rattle.board_model.proofs.Headlines.{linked_headline}
use Rattle.board_model.proofs.laws.headline.Goals as goal

pub returns : goal.returns
returns c = linked_headline
