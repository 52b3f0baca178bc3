-- A domain that went its way through its journal: what the second pass finds of it.
-- Source: docs/FORMATS.md, "How a report is checked".
use Rattle.std.specs.Prelude.{◌≡◌, ℕ, ◌+◌, List, length, map, None, Some}
use Rattle.board_model.specs.declared.scenario.Scenario.{Scenario}
use Rattle.board_model.specs.declared.scenario.DomainLine.{DomainLine}
use Rattle.board_model.specs.Scenario.{script}
use Rattle.board_model.specs.Grammar.{IsLawfulDomain}
use Rattle.board_model.specs.Unjoined.{peers_of}
use Rattle.board_model.specs.Unnamed.{unnamed}
use Rattle.report_text.specs.declared.link_pass.JournalLines.{JournalLines}
use Rattle.report_text.specs.declared.verdict.CheckReason.TheVariants as of
use Rattle.report_text.specs.JournalOrder.{journal_place}
use Rattle.report_text.specs.JournalRead.{JournalText, told_texts, lines_of_texts}
use Rattle.report_text.specs.Outlines.{outline_of}
use Rattle.report_text.specs.StepPass.{wrong_step, unfinished, left_behind}
use Rattle.report_text.specs.TextPass.{puts_of_script}
use Rattle.report_text.specs.TextLines.{lines_in}
use Rattle.report_text.specs.Texts.{lines_behind}
use Rattle.report_text.specs.ScenarioPart.{rest}
use Rattle.report_totals.specs.SenderLanes.{GivesBack}
use Rattle.report_check.specs.declared.steps.Walked.{Walked}
use Rattle.report_check.specs.declared.steps.Walked.TheVariants as walked

-- a journal of a report in which the first pass finds no line wrong
pub record IsInOrder (s : Scenario) (j : JournalText) : Type 0 where
  pub order : journal_place (peers_of s j.line) (puts_of_script (script s j.line.domain)) (map outline_of (lines_of_texts j.texts)) ≡ None
  pub lawful : IsLawfulDomain j.line

-- the journal that a reader finds at the front of a text
abbrev pub journal_read : DomainLine → JournalLines → JournalText
journal_read d c = record { line = d; number = c.number; texts = told_texts (lines_in c.text.now) }

-- the first wrong line, with its reason, or the state that the domain is left in, and what it gave back, with what stands behind its journal
abbrev pub IsWalked : Scenario → JournalText → List ℕ → Walked → Type 0
IsWalked s j text (walked.Right state given line behind) = (wrong_step s j ≡ None) × (unfinished s j ≡ None) × (unnamed state ≡ (left_behind s j).state) × GivesBack s j given × (rest line (lines_in behind.now) ≡ rest (j.number + length j.texts) (lines_behind text))
IsWalked s j text (walked.Wrong line of.Step) = wrong_step s j ≡ Some line
IsWalked s j text (walked.Wrong line of.Script) = (wrong_step s j ≡ None) × (unfinished s j ≡ Some line)
IsWalked s j text (walked.Wrong line other) = ⊥
