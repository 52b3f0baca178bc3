-- What a line that was run leaves in its domain's journal: the answer of its last call.
-- Source: docs/PROFILE.md, "Logs".
use Rattle.std.specs.Prelude.{◌≡◌, List, [], ◌∷◌, ◌++◌}
use Rattle.board_model.specs.declared.scenario.Call.{Call}
use Rattle.board_model.specs.Journal.{Line, call_line, PlainAnswer}
use Rattle.board_model.specs.Logs.{answers_on}
use Rattle.board_runner.specs.declared.station.Station.{Station}
use Rattle.board_runner.specs.AnswerForms.{IsAnswerTo}

-- one answer more, to this call, which is the last line, with the number of the line that was run
pub record IsAnswered (call : Call) (old new : Station) : Type 0 where
  pub answer : PlainAnswer
  pub front : List Line
  pub last : new.journal.lines ≡ front ++ call_line new.number answer ∷ []
  pub answers : answers_on new.journal.lines ≡ answers_on old.journal.lines ++ answer ∷ []
  pub to_call : IsAnswerTo call answer

-- no answer more
abbrev pub KeepsAnswers : Station → Station → Type 0
KeepsAnswers old new = answers_on new.journal.lines ≡ answers_on old.journal.lines
