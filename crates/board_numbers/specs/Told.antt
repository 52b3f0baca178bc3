-- Scenarios of which a report is written: those that some text tells. A text of any length will do.
-- Source: docs/FORMATS.md, "Scenario files" and "Report".
use Rattle.std.specs.Prelude.{◌≡◌, ℕ, List, Ok}
use Rattle.board_model.specs.declared.scenario.Scenario.{Scenario}
use Rattle.board_model.specs.Language.{told_by}

-- some text tells the scenario
abbrev pub IsToldByText : Scenario → Type 0
IsToldByText s = (text : List ℕ) × (told_by text ≡ Ok s)
