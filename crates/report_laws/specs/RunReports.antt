-- The reports of whole runs, and that a report is right exactly where it is one of them.
-- Source: docs/FORMATS.md, "Report" and "How a report is checked".
use Rattle.std.specs.Prelude.{◌≡◌, ℕ, ◌-◌, ◌^◌, ◌<◌, List, length}
use Rattle.std.specs.List.{AllByRecursion}
use Rattle.board_model.specs.declared.scenario.Scenario.{Scenario}
use Rattle.board_model.specs.Board.{DomainJournal, IsBoardRun, AreWhole}
use Rattle.board_model.specs.Language.{IsLawfulBoard}
use Rattle.board_model.specs.LinkedBoard.{IsLinkedBoard}
use Rattle.board_model.specs.Run.{IsDomainRun}
use Rattle.board_model.specs.Unjoined.{unjoined}
use Rattle.board_model.specs.Report.{Mode, serial, threads, lines_of, report}
use Rattle.mc_journal.specs.EntryText.{IsEntryLine}
use Rattle.ring_numbers.specs.InTime.{AreInTime}
use Rattle.report_text.specs.declared.verdict.Verdict.TheVariants.{Right}
use Rattle.report_text.specs.TotalPass.{rings_due}
use Rattle.report_text.specs.Verdicts.{verdict_on}

-- the report of journals: their lines, their numbers, and the images of rings that they come to if the board ran on threads
abbrev pub report_due : Mode → Scenario → List DomainJournal → List ℕ
report_due mode s js = report mode s js (rings_due mode s js)

-- on threads no buffer comes back before its frame was put. Of a serial run, which has no ring, this is not asked
abbrev pub BacksFit : Mode → Scenario → List DomainJournal → Type 0
BacksFit serial s js = Unit {0}
BacksFit threads s js = AreInTime s js

-- the text is the report of a whole run of the board of a lawful scenario
pub record IsRunReport (mode : Mode) (s : Scenario) (js : List DomainJournal) (text : List ℕ) : Type 0 where
  pub lawful : IsLawfulBoard s
  pub run : IsBoardRun s js
  pub whole : AreWhole s js
  pub backs : BacksFit mode s js
  pub written : text ≡ report_due mode s js

-- such a report is right
abbrev pub RunReportsAreRight : Type 0
RunReportsAreRight = (mode : Mode) (s : Scenario) (js : List DomainJournal) (text : List ℕ) → IsRunReport mode s js text → verdict_on text ≡ Right

-- a report that is right is that of a run
pub record IsOfSomeRun (text : List ℕ) : Type 0 where
  pub mode : Mode
  pub scenario : Scenario
  pub journals : List DomainJournal
  pub report : IsRunReport mode scenario journals text

abbrev pub RightReportsAreOfRuns : Type 0
RightReportsAreOfRuns = (text : List ℕ) → length text < 2 ^ 32 - 1 → verdict_on text ≡ Right → IsOfSomeRun text

-- and of no other run
pub record AreOneRun (m n : Mode) (s t : Scenario) (js ks : List DomainJournal) : Type 0 where
  pub mode : m ≡ n
  pub scenario : s ≡ t
  pub journals : js ≡ ks

abbrev pub ReportsAreOfOneRun : Type 0
ReportsAreOfOneRun = (text : List ℕ) (m n : Mode) (s t : Scenario) (js ks : List DomainJournal) → IsRunReport m s js text → IsRunReport n t ks text → AreOneRun m n s t js ks

-- the joined journal of each domain's run is read back as its plain one
abbrev pub RunsAreReadBack : Type 0
RunsAreReadBack = (s : Scenario) (j : DomainJournal) → IsLinkedBoard s → IsDomainRun s j.line j.entries → unjoined s j.line (lines_of j) ≡ j.entries

-- each line of a board's run is one of an entry: its numbers are in the ranges of their types, and its bytes are bytes
abbrev pub HaveEntryLines : DomainJournal → Type 0
HaveEntryLines j = AllByRecursion IsEntryLine (lines_of j)

abbrev pub RunsHaveEntryLines : Type 0
RunsHaveEntryLines = (s : Scenario) (js : List DomainJournal) → IsLawfulBoard s → IsBoardRun s js → AllByRecursion HaveEntryLines js
