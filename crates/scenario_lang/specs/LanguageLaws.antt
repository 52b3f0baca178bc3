-- The laws of canonical texts: that of a lawful scenario is a text of the language, and tells that scenario; and the load boards are
-- lawful.
-- Source: docs/FORMATS.md, "Scenario files" and "The load board".
use Rattle.std.specs.Prelude.{◌≡◌, ◌≤◌, ℕ, Ok}
use Rattle.board_model.specs.declared.scenario.Scenario.{Scenario}
use Rattle.board_model.specs.Grammar.{canonical}
use Rattle.board_model.specs.Language.{told_by, IsLawfulBoard}
use Rattle.board_model.specs.LoadBoard.{load_board, load_limit}

-- the canonical text of a lawful scenario is read back as the same scenario
abbrev pub CanonicalIsReadBack : Type 0
CanonicalIsReadBack = (s : Scenario) → IsLawfulBoard s → told_by (canonical s) ≡ Ok s

-- some text of a size that can be read tells each load board
abbrev pub LoadBoardsAreLawful : Type 0
LoadBoardsAreLawful = (n : ℕ) → n ≤ load_limit → IsLawfulBoard (load_board n)
