-- What is told of a report: that it is right, or its first wrong line and why it is wrong.
-- Source: docs/FORMATS.md, "Statuses" and "How a report is checked".
use Rattle.std.specs.Prelude.{◌≡◌, ℕ, List, [], ◌∷◌, codes}
use Rattle.board_model.specs.Grammar.{line_of}
use Rattle.board_model.specs.declared.scenario.Scenario.{Scenario}
use Rattle.board_model.specs.Board.{DomainJournal}
use Rattle.board_model.specs.Headline.{Headline}
use Rattle.board_model.specs.Report.{Mode}
use Rattle.report_text.specs.declared.verdict.CheckReason.{CheckReason}
use Rattle.report_text.specs.declared.verdict.CheckReason.TheVariants.{Text, Step, Script, Link, Total}
use Rattle.report_text.specs.declared.verdict.Verdict.{Verdict}
use Rattle.report_text.specs.declared.verdict.Verdict.TheVariants.{Right, Wrong}
use Rattle.report_text.specs.Verdicts.{verdict_on}
use Rattle.report_laws.specs.RunReports.{IsRunReport}
use Rattle.scenario_cli.specs.WrongText.{wrong_line}

abbrev pub check_reason_text : CheckReason → List ℕ
check_reason_text Text = codes "text"
check_reason_text Step = codes "step"
check_reason_text Script = codes "script"
check_reason_text Link = codes "link"
check_reason_text Total = codes "total"

-- the line of a verdict
abbrev pub verdict_line : Verdict → List ℕ
verdict_line Right = line_of (codes "right" ∷ [])
verdict_line (Wrong line reason) = wrong_line line (check_reason_text reason)

-- a wrong line, and why it is wrong
abbrev pub WrongLine : Type 0
WrongLine = ℕ × CheckReason

-- the report has no wrong line, or this is its first
abbrev pub HasNoWrongLine : List ℕ → Type 0
HasNoWrongLine report = verdict_on report ≡ Right

abbrev pub HasWrongLine : List ℕ → WrongLine → Type 0
HasWrongLine report w = verdict_on report ≡ Wrong w.0 w.1

-- the report is that of a whole run of the board that it names, and the headline holds of the run's journals
pub record IsOfRun (report : List ℕ) : Type 0 where
  pub mode : Mode
  pub scenario : Scenario
  pub journals : List DomainJournal
  pub run : IsRunReport mode scenario journals report
  pub headline : Headline scenario journals
