-- The law of the serial run of a board of linked domains.
-- Source: docs/PROFILE.md, "Serial run" and "Boards".
use Rattle.board_model.specs.declared.scenario.Scenario.{Scenario}
use Rattle.board_model.specs.LinkedBoard.{IsLinkedBoard}
use Rattle.board_model.specs.Board.{IsBoardRun, AreWhole}
use Rattle.board_model.specs.SerialRun.{serial_run}

-- the serial run is a run of the board, and runs every script whole
abbrev pub LinkedSerialIsBoardRun : Type 0
LinkedSerialIsBoardRun = (s : Scenario) → IsLinkedBoard s → IsBoardRun s (serial_run s) × AreWhole s (serial_run s)
