use Rattle.board_model.proofs.RunDeeds.{deeds_run, state_is}
use Rattle.board_model.proofs.DeedGiven.{given_are}
use Rattle.board_model.proofs.laws.journals_tell_deeds.Goals as goal

pub returns : goal.returns
returns c s j board run = record { allowed = (deeds_run s j board run).may; left = state_is s j board run; given_back = given_are s j board run }
