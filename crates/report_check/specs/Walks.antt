-- The journals of a report, walked one after the other: those that were, and what is left behind them.
-- Source: docs/FORMATS.md, "How a report is checked".
use Rattle.std.specs.Prelude.{◌≡◌, ℕ, ◌+◌, ◌-◌, ◌^◌, ◌<◌, ◌≤◌, List, ◌++◌, length, Option, None, Some, Ok}
use Rattle.std.specs.List.{AllByRecursion}
use Rattle.mc_base.specs.Limits.{domain_limit}
use Rattle.board_model.specs.declared.scenario.DomainLine.{DomainLine}
use Rattle.board_model.specs.declared.scenario.Scenario.{Scenario}
use Rattle.board_model.specs.Scenario.{rising}
use Rattle.report_text.specs.declared.pass.ReportText.{ReportText}
use Rattle.report_text.specs.declared.verdict.Verdict.{Verdict}
use Rattle.report_text.specs.JournalRead.{JournalText, journals_at, behind_journals}
use Rattle.report_text.specs.LaneLeft.{AreShort, AreTold}
use Rattle.report_text.specs.LinkPass.{wrong_among}
use Rattle.report_text.specs.ScenarioPart.{Rest, rest, Told}
use Rattle.report_text.specs.StepPass.{wrong_step, unfinished}
use Rattle.report_text.specs.TextLines.{lines_in}
use Rattle.report_text.specs.TextPass.{told_by_text}
use Rattle.report_text.specs.TextRead.{told_of}
use Rattle.report_text.specs.Texts.{longest_line}
use Rattle.report_text.specs.TotalPass.{wrong_total}
use Rattle.report_text.specs.Verdicts.{by_steps}
use Rattle.report_totals.specs.SenderLanes.{AreGiven}
use Rattle.report_check.specs.declared.walks.Walks.{Walks}
use Rattle.report_totals.specs.EndedJournals.{AreLeftBehind}

-- what is left behind them
abbrev pub left_of : Walks → Rest
left_of w = rest w.line (lines_in w.behind.now)

-- these journals were walked
pub record AreWalked (s : Scenario) (js : List JournalText) (w : Walks) : Type 0 where
  pub told : AreTold js w.journals.items
  pub states : AreLeftBehind s js w.states.items
  pub given : AreGiven s js w.given.items

-- their domains are those of a board, and none of their lines is longer than this, and these can be counted
pub record AreReady (room most : ℕ) (w : Walks) : Type 0 where
  pub domains : AllByRecursion (λ c. c.domain < domain_limit) w.journals.items
  pub short : AreShort room w.journals.items
  pub line : longest_line w.behind.now ≤ room
  pub count : w.line + length w.behind.now ≤ most

-- no step of these journals is wrong, and they are whole
abbrev pub AreRight : Scenario → List JournalText → Type 0
AreRight s js = AllByRecursion (λ j. (wrong_step s j ≡ None) × (unfinished s j ≡ None)) js

-- the journals of these domains were walked too, or one of them is wrong
abbrev pub WalksOn : Scenario → List DomainLine → Walks → Walks → Option Verdict → Type 0
WalksOn s ds old new None = AreRight s (journals_at ds (left_of old)) × (left_of new ≡ behind_journals ds (left_of old)) × ((js : List JournalText) → AreWalked s js old → AreWalked s (js ++ journals_at ds (left_of old)) new)
WalksOn s ds old new (Some v) = (next : Verdict) → by_steps s (journals_at ds (left_of old)) next ≡ v

-- all journals of a report were walked, and what its text tells stands behind them
pub record AreAllWalked (t : Told) (w : Walks) : Type 0 where
  pub right : AreRight t.scenario (journals_at (rising t.scenario) t.behind)
  pub walked : AreWalked t.scenario (journals_at (rising t.scenario) t.behind) w
  pub left : left_of w ≡ behind_journals (rising t.scenario) t.behind

-- the first line that the third pass finds wrong
abbrev pub wrong_link_of : Told → Option ℕ
wrong_link_of t = wrong_among t.scenario (journals_at (rising t.scenario) t.behind) (journals_at (rising t.scenario) t.behind)

-- the first line that the fourth pass finds wrong
abbrev pub wrong_total_of : Told → Option ℕ
wrong_total_of t = wrong_total t.mode t.scenario (journals_at (rising t.scenario) t.behind) (behind_journals (rising t.scenario) t.behind)

-- the text of a report was read so
pub record IsTextOf (report : List ℕ) (text : ReportText) : Type 0 where
  pub short : length report < 2 ^ 32 - 1
  pub told : told_by_text report ≡ Ok (told_of text)
  pub counted : text.line + length text.behind.now ≤ length report + 1
