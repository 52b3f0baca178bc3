-- The journals of a report, as a view has them.
-- Source: docs/FORMATS.md, "Report".
use Rattle.std.specs.Prelude.{ℕ, List}
use Rattle.report_text.specs.declared.link_pass.JournalLines.{JournalLines}
use Rattle.board_model.specs.Scenario.{rising}
use Rattle.report_text.specs.JournalRead.{JournalText, journals_at, told_texts}
use Rattle.report_text.specs.ScenarioPart.{Told}
use Rattle.report_text.specs.TextLines.{lines_in}
use Rattle.report_view.specs.declared.view.DomainView.{DomainView}

-- a domain, and the lines of its journal
pub record DomainTexts : Type 0 where
  pub domain : ℕ
  pub texts : List (List ℕ)

abbrev pub in_view : JournalLines → DomainTexts
in_view j = record { domain = j.domain; texts = told_texts (lines_in j.text.now) }

abbrev pub in_report : JournalText → DomainTexts
in_report j = record { domain = j.line.domain; texts = j.texts }

abbrev pub journal_of : DomainView → JournalLines
journal_of d = d.journal

-- the journals of what a report tells, domain by domain in rising number
abbrev pub journals_told : Told → List JournalText
journals_told t = journals_at (rising t.scenario) t.behind
