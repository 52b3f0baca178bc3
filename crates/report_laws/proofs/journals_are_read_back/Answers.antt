use Rattle.board_model.specs.Scenario.{script}
use Rattle.board_model.specs.Unjoined.{peers_of}
use Rattle.board_model.proofs.JournalFollows.{joined_back}
use Rattle.board_model.proofs.PlaceBoards.{neighbours_differ}
use Rattle.report_laws.proofs.RunForms.{domain-run}
use Rattle.report_laws.proofs.journals_are_read_back.Goals as goal

pub returns : goal.returns
returns c = λ s j board run. joined_back (peers_of s j.line) (script s j.line.domain) (neighbours_differ s board j.line) j.entries (domain-run s j.line j.entries run).form
