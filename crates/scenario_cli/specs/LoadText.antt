-- The words of the form `load N`, and what it writes: N, and of the report of the serial run of the load board the lines of the channels,
-- that of the messages and the last.
-- Source: docs/FORMATS.md, "Statuses" and "The load board" and "Report".
use Rattle.std.specs.Prelude.{◌≡◌, ℕ, ◌≤◌, List, [], ◌∷◌, ◌++◌, codes, decimal}
use Rattle.board_model.specs.declared.scenario.Scenario.{Scenario}
use Rattle.board_model.specs.LoadBoard.{load_board, load_limit}
use Rattle.board_model.specs.Grammar.{line_of}
use Rattle.board_model.specs.Board.{DomainJournal}
use Rattle.board_model.specs.SerialRun.{serial_run}
use Rattle.board_model.specs.Totals.{channel_totals, totals}
use Rattle.board_model.specs.Report.{summary_text, ending}

-- the words tell this number of packets, from 1 to the most, in decimal without leading zeros
pub record IsLoad (packets : ℕ) (words : List (List ℕ)) : Type 0 where
  pub told : words ≡ codes "load" ∷ decimal packets ∷ []
  pub some : 1 ≤ packets
  pub few : packets ≤ load_limit

-- the lines of the channels and of the messages in the report of a scenario that was run with these journals
abbrev pub summary_of : Scenario → List DomainJournal → List ℕ
summary_of s js = summary_text (channel_totals s js) (totals s js)

unfoldable pub load_report : ℕ → List ℕ
load_report n = line_of (codes "load" ∷ decimal n ∷ []) ++ (summary_of (load_board n) (serial_run (load_board n)) ++ ending)
