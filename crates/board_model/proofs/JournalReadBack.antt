-- The lines of a domain's plain journal are read back.
use Rattle.board_model.specs.Scenario.{script}
use Rattle.board_model.specs.Unjoined.{peers_of}
use Rattle.board_model.specs.JournalLaws.{JoinedIsReadBack}
use Rattle.board_model.proofs.LawfulBoards.{lawful_is_linked}
use Rattle.board_model.proofs.PlaceBoards.{neighbours_differ}
use Rattle.board_model.proofs.JournalFollows.{joined_back}

pub joined_is_read_back : JoinedIsReadBack
joined_is_read_back s d es lawful form = joined_back (peers_of s d) (script s d.domain) (neighbours_differ s (lawful_is_linked s lawful) d) es form
