-- Logs of actors: which answer is told for a line, the log so far, and which line may come after a log's lines.
-- Source: docs/PROFILE.md, "Actors". A line is told in a scenario by some line of text that is not refused there (docs/FORMATS.md, "Scenario
-- files"), and depends on the board by its domain alone and on the earlier lines by those of its own domain.
use Rattle.std.specs.Prelude.{◌≡◌, ℕ, Bool, true, false, List, [], ◌∷◌, ◌++◌, map, Option, None, Some}
use Rattle.board_model.specs.declared.scenario.Call.{Call}
use Rattle.board_model.specs.declared.scenario.Call.TheVariants.{Raw}
use Rattle.board_model.specs.declared.scenario.CallLine.{CallLine}
use Rattle.board_model.specs.declared.scenario.Scenario.{Scenario}
use Rattle.board_model.specs.FileLines.{words_of}
use Rattle.board_model.specs.Forms.{parts_of}
use Rattle.board_model.specs.Journal.{PlainAnswer}
use Rattle.board_model.specs.LineReasons.{is_domain, line_reason, with_parts}
use Rattle.board_model.specs.Logs.{LoggedCall, logged}
use Rattle.board_runner.specs.AnswerForms.{IsAnswerTo}

-- ---- what is told

-- an answer is told exactly where a line was asked, and it is an answer to that line
abbrev pub IsToldFor : Option CallLine → Option PlainAnswer → Type 0
IsToldFor (Some line) (Some answer) = IsAnswerTo line.call answer
IsToldFor None None = Unit {0}
IsToldFor asked told = ⊥

-- the line that was asked, with its answer
abbrev pub asked_and_told : Option CallLine → PlainAnswer → List LoggedCall
asked_and_told None answer = []
asked_and_told (Some line) answer = logged line answer ∷ []

-- the log so far: the log before, and then what was asked and is told now
abbrev pub log_so_far : List LoggedCall → Option CallLine → Option PlainAnswer → List LoggedCall
log_so_far log asked None = log
log_so_far log asked (Some answer) = log ++ asked_and_told asked answer

abbrev pub lines_in_log : List LoggedCall → List CallLine
lines_in_log log = map (λ l. l.line) log

-- ---- the next line

abbrev pub with_calls : Scenario → List CallLine → Scenario
with_calls board lines = record board { calls = lines }

-- some line of text tells this line, and is not refused after what is told above it
pub record MayBeTold (above : Scenario) (line : CallLine) : Type 0 where
  pub text : List ℕ
  pub passes : line_reason above text ≡ None
  pub tells : with_parts above (parts_of (words_of text)) ≡ with_calls above (above.calls ++ line ∷ [])

abbrev pub is_raw : Call → Bool
is_raw (Raw domain bytes) = true
is_raw other = false

-- the line is of the domain, puts no raw frame, and may be told after the domain's earlier lines on any board with the domain
pub record MayFollow (domain : ℕ) (earlier : List CallLine) (line : CallLine) : Type 0 where
  pub own : line.domain ≡ domain
  pub not_raw : is_raw line.call ≡ false
  pub told : (board : Scenario) → is_domain board domain ≡ true → MayBeTold (with_calls board earlier) line

-- each of the lines may follow those before it
abbrev pub AllFollow : ℕ → List CallLine → List CallLine → Type 0
AllFollow domain earlier [] = Unit {0}
AllFollow domain earlier (line ∷ lines) = MayFollow domain earlier line × AllFollow domain (earlier ++ line ∷ []) lines
