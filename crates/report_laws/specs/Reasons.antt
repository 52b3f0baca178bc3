-- What the reason for which a report is wrong says of runs.
-- Source: docs/FORMATS.md, "How a report is checked".
use Rattle.std.specs.Prelude.{◌≡◌, ℕ, ◌-◌, ◌^◌, ◌<◌, List, [], ◌∷◌, length, map, slice_get, Some, Ok}
use Rattle.std.specs.List.{AllByRecursion}
use Rattle.board_model.specs.declared.scenario.Scenario.{Scenario}
use Rattle.board_model.specs.Scenario.{rising}
use Rattle.board_model.specs.Board.{DomainJournal, IsBoardRun, AreWhole}
use Rattle.board_model.specs.Report.{line_text, lines_of}
use Rattle.board_model.specs.Run.{IsDomainRun, IsWhole}
use Rattle.report_text.specs.declared.verdict.CheckReason.{CheckReason}
use Rattle.report_text.specs.declared.verdict.CheckReason.TheVariants as of
use Rattle.report_text.specs.declared.verdict.Verdict.TheVariants.{Wrong}
use Rattle.report_text.specs.JournalRead.{JournalText, journals_at}
use Rattle.report_text.specs.ScenarioPart.{Told}
use Rattle.report_text.specs.TextPass.{told_by_text}
use Rattle.report_text.specs.Verdicts.{verdict_on}

-- the journal in a text has the lines of this one
pub record IsTextOf (j : DomainJournal) (t : JournalText) : Type 0 where
  pub line : t.line ≡ j.line
  pub texts : t.texts ≡ map line_text (lines_of j)

abbrev pub AreTextsOf : List DomainJournal → List JournalText → Type 0
AreTextsOf [] [] = Unit {0}
AreTextsOf (j ∷ js) (t ∷ ts) = IsTextOf j t × AreTextsOf js ts
AreTextsOf js ts = ⊥

-- no run of its domain has this text
abbrev pub IsOfNoRun : Scenario → JournalText → Type 0
IsOfNoRun s t = (j : DomainJournal) → IsTextOf j t → IsDomainRun s j.line j.entries → ⊥

-- a run of its domain that is not whole has it
pub record IsOfPart (s : Scenario) (t : JournalText) : Type 0 where
  pub journal : DomainJournal
  pub text : IsTextOf journal t
  pub run : IsDomainRun s journal.line journal.entries
  pub not_whole : IsWhole s journal.line journal.entries → ⊥

-- a whole run of its domain has it
pub record IsOfWhole (s : Scenario) (t : JournalText) : Type 0 where
  pub journal : DomainJournal
  pub text : IsTextOf journal t
  pub run : IsDomainRun s journal.line journal.entries
  pub whole : IsWhole s journal.line journal.entries

-- one of the journals is so
abbrev pub HasOne : (JournalText → Type 0) → List JournalText → Type 0
HasOne P ts = (i : ℕ) × (t : JournalText) × (slice_get ts i ≡ Some t) × P t

-- a whole run of the board has these texts
pub record AreOfBoardRun (s : Scenario) (ts : List JournalText) : Type 0 where
  pub journals : List DomainJournal
  pub texts : AreTextsOf journals ts
  pub run : IsBoardRun s journals
  pub whole : AreWhole s journals

abbrev pub AreOfNoBoardRun : Scenario → List JournalText → Type 0
AreOfNoBoardRun s ts = (js : List DomainJournal) → AreTextsOf js ts → IsBoardRun s js → AreWhole s js → ⊥

-- `step`: one journal is that of no run of its domain. `script`: one is that of a run that is not whole. `link`: each is that of a whole run,
-- and together they are of no whole run of the board. `total`: together they are of one. Then a line behind them is wrong, or, on
-- threads, a buffer comes back before its frame was put
abbrev pub Explains : CheckReason → Scenario → List JournalText → Type 0
Explains of.Text s ts = Unit {0}
Explains of.Step s ts = HasOne (IsOfNoRun s) ts
Explains of.Script s ts = HasOne (IsOfPart s) ts
Explains of.Link s ts = AllByRecursion (IsOfWhole s) ts × AreOfNoBoardRun s ts
Explains of.Total s ts = AreOfBoardRun s ts

-- of a text whose lines are each in place, what the reason of the verdict says of the journals that it has
abbrev pub IsExplained : List ℕ → CheckReason → Type 0
IsExplained text reason = (t : Told) → told_by_text text ≡ Ok t → Explains reason t.scenario (journals_at (rising t.scenario) t.behind)

abbrev pub ReasonsAreOfRuns : Type 0
ReasonsAreOfRuns = (text : List ℕ) (line : ℕ) (reason : CheckReason) → length text < 2 ^ 32 - 1 → verdict_on text ≡ Wrong line reason → IsExplained text reason
