-- The laws of the scenario language: what holds of every scenario that has a text.
-- Source: docs/FORMATS.md, "Scenario files"; docs/PROFILE.md, "Serial run"; docs/PROMISES.md, "The headline".
use Rattle.board_model.specs.declared.scenario.Scenario.{Scenario}
use Rattle.board_model.specs.Language.{IsLawfulBoard}
use Rattle.board_model.specs.LinkedBoard.{IsLinkedBoard}
use Rattle.board_model.specs.Board.{IsBoardRun, AreWhole}
use Rattle.board_model.specs.SerialRun.{serial_run}
use Rattle.board_model.specs.Headline.{Headline}

-- the board of every lawful scenario is one of linked domains
abbrev pub LawfulIsLinked : Type 0
LawfulIsLinked = (s : Scenario) → IsLawfulBoard s → IsLinkedBoard s

-- its serial run is a run of the board, and runs every script whole
abbrev pub LawfulSerialIsBoardRun : Type 0
LawfulSerialIsBoardRun = (s : Scenario) → IsLawfulBoard s → IsBoardRun s (serial_run s) × AreWhole s (serial_run s)

-- the headline holds of its serial run
abbrev pub LawfulSerialHeadline : Type 0
LawfulSerialHeadline = (s : Scenario) → IsLawfulBoard s → Headline s (serial_run s)
