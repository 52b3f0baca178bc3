-- Each address that a domain announces is one that it gave an endpoint of the name. So those that its peers know and find are.
use Rattle.board_model.proofs.NamesHad.{lookups_tell_had}
use Rattle.board_model.proofs.laws.lookups_tell_what_was_had.Goals as goal

pub returns : goal.returns
returns c = λ s js board run. lookups_tell_had s js board run
