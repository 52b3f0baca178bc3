-- The domains of a report at the ends of their journals.
-- Source: docs/FORMATS.md, "Report".
use Rattle.std.specs.Prelude.{◌≡◌, ℕ, ◌==◌, List, [], ◌∷◌, map, find, Option, None, Some}
use Rattle.board_model.specs.declared.scenario.DomainLine.{DomainLine}
use Rattle.board_model.specs.declared.scenario.Scenario.{Scenario}
use Rattle.board_model.specs.Scenario.{rising}
use Rattle.board_model.specs.Journal.{Line, joined}
use Rattle.board_model.specs.State.{DomainState}
use Rattle.board_model.specs.Unnamed.{unnamed}
use Rattle.board_numbers.specs.EndedDomains.{Ended}
use Rattle.report_text.specs.declared.link_pass.JournalLines.{JournalLines}
use Rattle.report_text.specs.CountedLines.{counted_line, lines_counted}
use Rattle.report_text.specs.JournalRead.{JournalText, told_texts}
use Rattle.report_text.specs.RightRuns.{journal_due}
use Rattle.report_text.specs.StepPass.{left_behind}
use Rattle.report_text.specs.TextLines.{lines_in}
use Rattle.report_totals.specs.declared.ended_journal.EndedJournal.{EndedJournal}

-- each state, but for the names of frames, is the one in which the journal at its place leaves its domain
abbrev pub AreLeftBehind : Scenario → List JournalText → List DomainState → Type 0
AreLeftBehind s [] [] = Unit {0}
AreLeftBehind s (j ∷ js) (x ∷ xs) = (unnamed x ≡ (left_behind s j).state) × AreLeftBehind s js xs
AreLeftBehind s js xs = ⊥

-- the journals and the states, each with the other
pub record IsEnded (s : Scenario) (c : JournalLines) (x : DomainState) (e : EndedJournal) : Type 0 where
  pub scenario : e.scenario.now ≡ s
  pub journal : e.journal ≡ c
  pub state : e.state.now ≡ x

abbrev pub AreEnded : Scenario → List JournalLines → List DomainState → List EndedJournal → Type 0
AreEnded s [] [] [] = Unit {0}
AreEnded s (c ∷ cs) (x ∷ xs) (e ∷ es) = IsEnded s c x e × AreEnded s cs xs es
AreEnded s cs xs es = ⊥

-- the journal that a text tells for the domain of this line. At which line of the report it begins is left open
abbrev pub journal_in : DomainLine → List ℕ → JournalText
journal_in d text = record { line = d; number = 0; texts = told_texts (lines_in text) }

-- its lines, with the answers that are due. A domain that the board has not has none
abbrev pub lines_due_at : Scenario → Option DomainLine → List ℕ → List Line
lines_due_at s None text = []
lines_due_at s (Some d) text = joined (journal_due s (journal_in d text)).entries

abbrev pub lines_due : Scenario → ℕ → List ℕ → List Line
lines_due s n text = lines_due_at s (find (λ d. d.domain == n) (rising s)) text

-- a domain at its journal's end. What is counted does not hang on the names of frames
abbrev pub ended_by : EndedJournal → Ended
ended_by e = record { number = e.journal.domain; lines = lines_due e.scenario.now e.journal.domain e.journal.text.now; state = unnamed e.state.now }

-- a count comes to the same with its lines as with those that the text tells
abbrev pub CountsAsTold : EndedJournal → Type 0
CountsAsTold e = map counted_line (ended_by e).lines ≡ lines_counted e.journal.text.now
