-- What is shown, pass by pass, of the text of a whole run's report.
use Rattle.std.proofs.Common.{◌≡◌, ℕ, ◌-◌, ◌^◌, ◌<◌, List, [], ◌∷◌, length, map, None}
use Rattle.std.specs.Prelude.{Ok}
use Rattle.std.specs.List.{AllByRecursion}
use Rattle.board_model.specs.declared.scenario.DomainLine.{DomainLine}
use Rattle.board_model.specs.declared.scenario.Scenario.{Scenario}
use Rattle.board_model.specs.Board.{DomainJournal, IsBoardRun}
use Rattle.board_model.specs.Journal.{PlainEntry, joined}
use Rattle.board_model.specs.LinkedBoard.{IsLinkedBoard}
use Rattle.board_model.specs.Report.{Mode}
use Rattle.board_model.specs.Run.{IsDomainRun, IsWhole}
use Rattle.board_model.specs.Scenario.{script, rising}
use Rattle.board_model.specs.Unjoined.{peers_of}
use Rattle.report_text.specs.JournalOrder.{journal_place}
use Rattle.report_text.specs.JournalRead.{JournalText, journals_at, behind_journals}
use Rattle.report_text.specs.LinkPass.{wrong_among}
use Rattle.report_text.specs.Outlines.{outline_of}
use Rattle.report_text.specs.RightRuns.{journal_due}
use Rattle.report_text.specs.ScenarioPart.{Told}
use Rattle.report_text.specs.StepPass.{wrong_step, unfinished}
use Rattle.report_text.specs.TextPass.{puts_of_script, told_by_text}
use Rattle.report_text.specs.TotalPass.{number_texts, rings_due, wrong_ring_back}
use Rattle.report_text.proofs.RunsTold.{IsRight}
use Rattle.report_laws.specs.RunReports.{BacksFit, IsRunReport}
use Rattle.report_laws.specs.Reasons.{IsTextOf, AreTextsOf}

-- ---- the first pass

-- no line of a domain's run is out of place
abbrev pub RunsStandInOrder : Type 0
RunsStandInOrder = (s : Scenario) (board : IsLinkedBoard s) (d : DomainLine) (es : List PlainEntry) → IsDomainRun s d es → journal_place (peers_of s d) (puts_of_script (script s d.domain)) (map outline_of (joined es)) ≡ None

-- the text of a run's report is read back
pub record IsReadBack (mode : Mode) (s : Scenario) (js : List DomainJournal) (text : List ℕ) : Type 0 where
  pub told : Told
  pub read : told_by_text text ≡ Ok told
  pub mode_is : told.mode ≡ mode
  pub scenario_is : told.scenario ≡ s
  pub journals : AreTextsOf js (journals_at (rising s) told.behind)
  pub numbers : (behind_journals (rising s) told.behind).lines ≡ number_texts s js (rings_due mode s js)

abbrev pub ReportsAreReadBack : Type 0
ReportsAreReadBack = (mode : Mode) (s : Scenario) (js : List DomainJournal) (text : List ℕ) → IsRunReport mode s js text → IsReadBack mode s js text

-- ---- the second pass

-- no step is wrong, the script is run to its end, and the journal with the answers that are due is the run's
pub record HasRightSteps (s : Scenario) (j : DomainJournal) (t : JournalText) : Type 0 where
  pub steps : wrong_step s t ≡ None
  pub whole : unfinished s t ≡ None
  pub journal : journal_due s t ≡ j

abbrev pub StepsOfRunsAreRight : Type 0
StepsOfRunsAreRight = (s : Scenario) (board : IsLinkedBoard s) (j : DomainJournal) (t : JournalText) → IsRight s board t → IsTextOf j t → IsDomainRun s j.line j.entries → IsWhole s j.line j.entries → HasRightSteps s j t

abbrev pub HaveRightSteps : Scenario → List DomainJournal → List JournalText → Type 0
HaveRightSteps s [] [] = Unit {0}
HaveRightSteps s (j ∷ js) (t ∷ ts) = HasRightSteps s j t × HaveRightSteps s js ts
HaveRightSteps s js ts = ⊥

-- ---- the third pass, and the back lines of the fourth

-- the journals of a board's run, as they are told
pub record AreToldRuns (s : Scenario) (board : IsLinkedBoard s) (js : List DomainJournal) (ts : List JournalText) : Type 0 where
  pub run : IsBoardRun s js
  pub texts : AreTextsOf js ts
  pub right : AllByRecursion (IsRight s board) ts
  pub steps : HaveRightSteps s js ts

abbrev pub LanesOfRunsFit : Type 0
LanesOfRunsFit = (s : Scenario) (board : IsLinkedBoard s) (js : List DomainJournal) (ts : List JournalText) → AreToldRuns s board js ts → wrong_among s ts ts ≡ None

abbrev pub BacksOfRunsFit : Type 0
BacksOfRunsFit = (mode : Mode) (s : Scenario) (board : IsLinkedBoard s) (js : List DomainJournal) (ts : List JournalText) → AreToldRuns s board js ts → BacksFit mode s js → wrong_ring_back mode s ts ≡ None
