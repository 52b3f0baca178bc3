-- The serial run of a lawful scenario is a whole run of its board, of which the headline holds.
use Rattle.board_model.specs.declared.scenario.Scenario.{Scenario}
use Rattle.board_model.specs.Language.{IsLawfulBoard}
use Rattle.board_model.specs.Board.{IsBoardRun, AreWhole}
use Rattle.board_model.specs.SerialRun.{serial_run}
use Rattle.board_model.specs.Headline.{Headline}
use Rattle.board_model.proofs.Headlines.{linked_headline}
use Rattle.board_model.proofs.WholeBoard.{serial_run_is_whole}
use Rattle.board_model.proofs.LawfulBoards.{lawful_is_linked}

pub lawful_run : (s : Scenario) → IsLawfulBoard s → IsBoardRun s (serial_run s) × AreWhole s (serial_run s)
lawful_run s lawful = serial_run_is_whole s (lawful_is_linked s lawful)

pub lawful_headline : (s : Scenario) → IsLawfulBoard s → Headline s (serial_run s)
lawful_headline s lawful = linked_headline s (serial_run s) (lawful_is_linked s lawful) (lawful_run s lawful).0
