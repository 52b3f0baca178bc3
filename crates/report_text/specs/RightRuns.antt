-- Reports in which no pass finds a wrong line tell whole runs: laws of the passes.
-- Source: docs/FORMATS.md, "Report".
use Rattle.std.specs.Prelude.{◌≡◌, ℕ, ◌+◌, ◌-◌, ◌^◌, ◌<◌, ◌≤◌, List, [], ◌∷◌, length, map, Option, None, Some, Ok}
use Rattle.std.specs.List.{AllByRecursion}
use Rattle.board_model.specs.declared.scenario.Scenario.{Scenario}
use Rattle.board_model.specs.declared.scenario.CallLine.{CallLine}
use Rattle.board_model.specs.Journal.{Visit, PlainAnswer, PlainEntry, called, joined}
use Rattle.board_model.specs.Report.{line_text}
use Rattle.board_model.specs.State.{DomainState, Peer, peer_of, held_from}
use Rattle.board_model.specs.Turn.{IsVisit, IsTurn, after_turn}
use Rattle.board_model.specs.Answer.{answer}
use Rattle.board_model.specs.Step.{RunState, next_line, call_at, after}
use Rattle.board_model.specs.Scenario.{script, rising}
use Rattle.board_model.specs.Language.{IsLawfulBoard}
use Rattle.board_model.specs.Run.{start, IsDomainRun, IsWhole}
use Rattle.board_model.specs.Board.{DomainJournal, IsBoardRun, AreWhole}
use Rattle.report_text.specs.declared.verdict.CheckReason.TheVariants as of
use Rattle.report_text.specs.declared.verdict.Verdict.{Verdict}
use Rattle.report_text.specs.declared.verdict.Verdict.TheVariants.{Right, Wrong}
use Rattle.report_text.specs.CountedLines.{counted_line}
use Rattle.report_text.specs.ScenarioPart.{Told}
use Rattle.report_text.specs.TextPass.{told_by_text}
use Rattle.report_text.specs.JournalRead.{JournalText, lines_of_texts, journals_at, behind_journals}
use Rattle.report_text.specs.StepPass.{due_visit, idle_visits, wrong_step, unfinished}
use Rattle.report_text.specs.LinkPass.{journal_told}
use Rattle.report_text.specs.RingPass.{ring_texts}
use Rattle.report_text.specs.TotalPass.{number_texts, rings_due}
use Rattle.report_text.specs.Verdicts.{verdict_on}

-- the visit that is due is allowed, where the peer is known and no more of its buffers are held and shown than there are
abbrev pub DueIsAllowed : Type 0
DueIsAllowed = (s : DomainState) (v : Visit) (at : Peer) → peer_of s v.peer ≡ Some at → at.shown + held_from v.peer s ≤ at.size → IsVisit s (due_visit s v)

-- an idle turn that is allowed changes nothing
abbrev pub IdleTurnsKeep : Type 0
IdleTurnsKeep = (s : DomainState) (peers : List ℕ) → IsTurn s (idle_visits peers) → after_turn s (idle_visits peers) ≡ s

-- ---- the answers that texts leave open: `ok 1 66` is the text of two

-- the answer of the line that is called next, where there is one
abbrev pub answered : Option CallLine → RunState → PlainAnswer → PlainAnswer
answered None r a = a
answered (Some line) r a = answer r.state line.node (call_at r line)

-- entries with the answers that their states give. What an entry leads to does not hang on an answer
abbrev pub with_answer : List CallLine → RunState → PlainEntry → PlainEntry
with_answer script r (called k a) = called k (answered (next_line script r) r a)
with_answer script r other = other

abbrev pub with_answers : List CallLine → RunState → List PlainEntry → List PlainEntry
with_answers script r [] = []
with_answers script r (e ∷ es) = with_answer script r e ∷ with_answers script (after script r e) es

-- the journal that a report's text tells for a domain, with the answers that are due
abbrev pub journal_due : Scenario → JournalText → DomainJournal
journal_due s j = record { line = j.line; entries = with_answers (script s j.line.domain) (start s j.line) (journal_told s j).entries }

-- the lines that a journal tells are those of its entries, and its texts are those of the lines with the answers that are due. A count comes
-- to the same with both
pub record HasLines (s : Scenario) (j : JournalText) : Type 0 where
  pub lines : joined (journal_told s j).entries ≡ lines_of_texts j.texts
  pub texts : map line_text (joined (journal_due s j).entries) ≡ j.texts
  pub counted : map counted_line (joined (journal_due s j).entries) ≡ map counted_line (lines_of_texts j.texts)

-- it is the journal of a run of its domain, and of a whole run where the script does not go on
pub record TellsRun (s : Scenario) (j : JournalText) : Type 0 where
  pub run : IsDomainRun s j.line (journal_due s j).entries
  pub whole : unfinished s j ≡ None → IsWhole s j.line (journal_due s j).entries
  pub written : HasLines s j

-- a journal in which the first pass finds each line at its place, and the second each step right, is one of a run
abbrev pub RightStepsTellRuns : Type 0
RightStepsTellRuns = (text : List ℕ) (t : Told) → length text < 2 ^ 32 - 1 → told_by_text text ≡ Ok t → AllByRecursion (λ j. wrong_step t.scenario j ≡ None → TellsRun t.scenario j) (journals_at (rising t.scenario) t.behind)

-- a verdict by which the first three passes find nothing wrong
abbrev pub PassesThree : Verdict → Type 0
PassesThree Right = Unit {0}
PassesThree (Wrong line of.Total) = Unit {0}
PassesThree other = ⊥

-- the journals that a report's text tells, with the answers that are due
abbrev pub journals_due : Told → List DomainJournal
journals_due t = map (journal_due t.scenario) (journals_at (rising t.scenario) t.behind)

-- a whole run of the board of a lawful scenario, whose journals have the texts of the report, and the numbers and the images of rings of the
-- journals that it tells
pub record TellsBoardRun (t : Told) : Type 0 where
  pub lawful : IsLawfulBoard t.scenario
  pub run : IsBoardRun t.scenario (journals_due t)
  pub whole : AreWhole t.scenario (journals_due t)
  pub written : AllByRecursion (HasLines t.scenario) (journals_at (rising t.scenario) t.behind)
  pub numbers : (rings : List (List ℕ)) → number_texts t.scenario (journals_due t) rings ≡ number_texts t.scenario (map (journal_told t.scenario) (journals_at (rising t.scenario) t.behind)) rings
  pub rings : ring_texts t.scenario (journals_due t) ≡ ring_texts t.scenario (map (journal_told t.scenario) (journals_at (rising t.scenario) t.behind))

-- a report in which the first three passes find nothing wrong tells one
abbrev pub RightReportsTellRuns : Type 0
RightReportsTellRuns = (text : List ℕ) (t : Told) → length text < 2 ^ 32 - 1 → told_by_text text ≡ Ok t → PassesThree (verdict_on text) → TellsBoardRun t

-- in a right report the lines behind the journals are those of that run: its numbers, and the images of its rings if it ran on threads
abbrev pub RightNumbersAreDue : Type 0
RightNumbersAreDue = (text : List ℕ) (t : Told) → length text < 2 ^ 32 - 1 → told_by_text text ≡ Ok t → verdict_on text ≡ Right → (behind_journals (rising t.scenario) t.behind).lines ≡ number_texts t.scenario (journals_due t) (rings_due t.mode t.scenario (journals_due t))
