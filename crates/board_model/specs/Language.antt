-- Which text is of which scenario, and for which line and reason any other text is refused: the first line that has a reason,
-- and the first reason of that line.
-- Source: docs/FORMATS.md, "Scenario files". A file without a domain line is refused as `domain` at the line after its last.
use Rattle.std.specs.Prelude.{◌≡◌, ℕ, ◌+◌, ◌^◌, ◌<◌, List, [], ◌∷◌, length, Option, None, Some, Result, Ok, Err, if◌then◌else◌}
use Rattle.board_model.specs.declared.scenario.Scenario.{Scenario}
use Rattle.board_model.specs.declared.reason.LineReason.{LineReason}
use Rattle.board_model.specs.declared.reason.LineReason.TheVariants.{Domain}
use Rattle.board_model.specs.FileLines.{lines_of, words_of}
use Rattle.board_model.specs.Forms.{parts_of}
use Rattle.board_model.specs.LineReasons.{is_empty, line_reason, with_parts}

-- a line that is refused, counted from 1, and its reason
pub record RefusedLine : Type 0 where
  pub line : ℕ
  pub reason : LineReason

abbrev pub refused : ℕ → LineReason → RefusedLine
refused line reason = record { line = line; reason = reason }

abbrev pub nothing_told : Scenario
nothing_told = record { domains = []; links = []; calls = [] }

abbrev pub unless_refused : ℕ → Option LineReason → Result Scenario RefusedLine → Result Scenario RefusedLine
unless_refused n None rest = rest
unless_refused n (Some reason) rest = Err (refused n reason)

-- the lines of a file from this one on, with the scenario of the lines above it
abbrev pub told_from : ℕ → Scenario → List (List ℕ) → Result Scenario RefusedLine
told_from n above [] = if is_empty above.domains then Err (refused n Domain) else Ok above
told_from n above (line ∷ lines) = unless_refused n (line_reason above line) (told_from (n + 1) (with_parts above (parts_of (words_of line))) lines)

-- the scenario of a text, or the line for which it is refused
abbrev pub told_by : List ℕ → Result Scenario RefusedLine
told_by text = told_from 1 nothing_told (lines_of text)

-- a scenario is lawful where it is that of some text, of any length, and has few enough calls to be counted
abbrev pub IsLawfulBoard : Scenario → Type 0
IsLawfulBoard s = (text : List ℕ) × (length s.calls < 2 ^ 32) × (told_by text ≡ Ok s)
