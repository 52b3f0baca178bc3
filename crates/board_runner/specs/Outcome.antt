-- What the outcome of a run says of its board run.
-- Source: docs/FORMATS.md, "Report". Its rings stand apart: a serial run finishes none.
use Rattle.std.specs.Prelude.{◌≡◌, List, map}
use Rattle.board_model.specs.declared.scenario.Scenario.{Scenario}
use Rattle.board_model.specs.Scenario.{lanes}
use Rattle.board_model.specs.Journal.{Line}
use Rattle.board_model.specs.Board.{DomainJournal}
use Rattle.board_model.specs.Totals.{channel_totals, totals}
use Rattle.board_model.specs.Places.{places_of}
use Rattle.board_model.specs.Report.{lines_of}
use Rattle.mc_journal.specs.Written.{Written}
use Rattle.board_runner.specs.declared.outcome.Outcome.{Outcome}

-- the lines of the journals
abbrev pub lines_in : List Written → List (List Line)
lines_in journals = map (λ j. j.lines) journals

-- the outcome tells these journals, and their numbers
pub record IsOutcome (s : Scenario) (o : Outcome) (js : List DomainJournal) : Type 0 where
  pub journals : lines_in o.journals ≡ map lines_of js
  pub places : o.places ≡ map (places_of s js) (lanes s)
  pub channels : o.channels ≡ channel_totals s js
  pub messages : o.messages ≡ totals s js
