-- The text of a run's report is read back.
use Rattle.std.proofs.Common.{◌≡◌, ℕ, ◌≤◌, List, [], ◌∷◌, ◌++◌, length, map, true, refl, sym, ap, subst, ◌∙◌, arith}
use Rattle.std.specs.Prelude.{Result, Ok}
use Rattle.std.specs.List.{AllByRecursion}
use Rattle.std.proofs.lemmas.List.{length-map}
use Rattle.board_model.specs.declared.scenario.DomainLine.{DomainLine}
use Rattle.board_model.specs.declared.scenario.Scenario.{Scenario}
use Rattle.board_model.specs.Board.{DomainJournal}
use Rattle.board_model.specs.Grammar.{IsLawfulDomain}
use Rattle.board_model.specs.LinkedBoard.{IsLinkedBoard}
use Rattle.board_model.specs.Report.{Mode, serial, threads, heading, line_text, lines_of}
use Rattle.board_model.specs.Run.{IsDomainRun}
use Rattle.board_model.specs.Scenario.{rising}
use Rattle.board_model.proofs.BoardsNeighbours.{rising-length}
use Rattle.board_model.proofs.LawfulBoards.{lawful_is_linked}
use Rattle.board_model.proofs.LawfulRanges.{lawful-some}
use Rattle.board_model.proofs.MessageAlls.{all-with}
use Rattle.report_text.specs.JournalRead.{journals_at, behind_journals}
use Rattle.report_text.specs.ScenarioPart.{Rest, rest, Told, begins_journal, scenario_from}
use Rattle.report_text.specs.TextLines.{lines_in}
use Rattle.report_text.specs.TextPass.{◌>>=◌, heading_from, journals_from, numbers_from, board_from}
use Rattle.report_text.proofs.TextTold.{text-told}
use Rattle.report_laws.specs.RunReports.{HaveEntryLines, IsRunReport}
use Rattle.report_laws.proofs.FormsMet.{journal-meets}
use Rattle.report_laws.proofs.JournalRows.{heading_row, journal_rows, IsReady, journals-read}
use Rattle.report_laws.proofs.NumberRows.{numbers-read}
use Rattle.report_laws.proofs.NumbersFit.{journals-lawful, numbers-meet}
use Rattle.report_laws.specs.Reasons.{AreTextsOf}
use Rattle.report_laws.proofs.Pieces.{IsReadBack, ReportsAreReadBack}
use Rattle.report_laws.proofs.ReportRows.{number_rows, numbers-first, report_rows, report-lines}
use Rattle.report_laws.proofs.LinesFit.{lines_fit}
use Rattle.report_laws.proofs.RunsInOrder.{runs_in_order}
use Rattle.report_laws.proofs.ScenarioRows.{scenario_rows, scenario-read}

heading-read : (mode : Mode) (ls : List (List ℕ)) → heading_from (rest 1 (heading mode ∷ ls)) ≡ Ok (record { mode = mode; behind = rest 2 ls })
heading-read serial ls = refl
heading-read threads ls = refl

-- the journals of a board begin with the line that heads the first
journals-begin : (js : List DomainJournal) (more : List (List ℕ)) → 1 ≤ length js → (l : List ℕ) × (ls : List (List ℕ)) × (journal_rows js ++ more ≡ l ∷ ls) × (begins_journal l ≡ true)
journals-begin [] more some = absurd (omega (arith, some))
journals-begin (j ∷ js) more some = (heading_row j.line, (map line_text (lines_of j) ++ journal_rows js) ++ more, refl, refl)

module _ (mode : Mode) (s : Scenario) (js : List DomainJournal) (text : List ℕ) (is : IsRunReport mode s js text) where
  board : IsLinkedBoard s
  board = lawful_is_linked s is.lawful

  abbrev later : List (List ℕ)
  later = journal_rows js ++ number_rows mode s js

  lines : lines_in text ≡ report_rows mode s js
  lines = ap lines_in is.written ∙ report-lines mode s js is.lawful is.run.each_domain

  some-journals : 1 ≤ length js
  some-journals = omega (arith, length-map js (λ (j : DomainJournal). j.line), ap (λ (ds : List DomainLine). length ds) is.run.each_domain, rising-length s, lawful-some s is.lawful)

  -- what the text tells, where its journals begin with the line of this number
  abbrev told_at : ℕ → Told
  told_at k = record { mode = mode; scenario = s; behind = rest k later }

  told-scenario : (k : ℕ) × (scenario_from mode (rest 2 (scenario_rows s ++ later)) ≡ Ok (told_at k))
  told-scenario =
      let begin = journals-begin js (number_rows mode s js) some-journals in
      subst (λ (ls : List (List ℕ)). (k : ℕ) × (scenario_from mode (rest 2 (scenario_rows s ++ ls)) ≡ Ok (record { mode = mode; scenario = s; behind = rest k ls }))) (sym begin.2)
      (scenario-read s is.lawful mode 2 begin.0 begin.1 begin.3)

  ready : AllByRecursion (IsReady s) js
  ready =
      all-with (λ j. IsLawfulDomain j.line × IsDomainRun s j.line j.entries) HaveEntryLines (IsReady s) one js
      (all-with (λ j. IsLawfulDomain j.line) (λ j. IsDomainRun s j.line j.entries) (λ j. IsLawfulDomain j.line × IsDomainRun s j.line j.entries) (λ j lawful runs. (lawful, runs)) js (journals-lawful s board js is.run) is.run.domain_runs) (lines_fit s js is.lawful is.run)
    where
      one : (j : DomainJournal) → IsLawfulDomain j.line × IsDomainRun s j.line j.entries → HaveEntryLines j → IsReady s j
      one j of entries = record { heading = journal-meets j.line (omega (arith, of.0.domain_fits)); entries = entries; order = runs_in_order s board j.line j.entries of.1 }

  abbrev Reads : Rest → List DomainLine → Type 0
  Reads r ds = (journals_from s ds r ≡ Ok (behind_journals ds r)) × AreTextsOf js (journals_at ds r) × ((behind_journals ds r).lines ≡ number_rows mode s js)

  told-journals : (r : Rest) → r.lines ≡ later → Reads r (rising s)
  told-journals r at =
      let read = journals-read s js (number_rows mode s js) r.number r.lines ready (numbers-first mode s js) at in
      subst (Reads r) is.run.each_domain (read.passes, read.texts, read.behind)

  read_back : IsReadBack mode s js text
  read_back =
      let scenario = told-scenario in
      let r : Rest = rest scenario.0 later in
      let journals = told-journals r refl in
      let q : Rest = behind_journals (rising s) r in
      let numbers = numbers-read mode s js (numbers-meet s board js is.run) q.number in
      let passed : board_from mode s r ≡ Ok (rest numbers.0 []) =
      ap (λ (o : Result Rest ℕ). o >>= numbers_from mode s) journals.0 ∙ ap (λ (ls : List (List ℕ)). numbers_from mode s (rest q.number ls)) journals.2 ∙ numbers.1 in
      let headed : heading_from (rest 1 (lines_in text)) ≡ Ok (record { mode = mode; behind = rest 2 (scenario_rows s ++ later) }) = ap (λ ls. heading_from (rest 1 ls)) lines ∙ heading-read mode (scenario_rows s ++ later) in
      record {
        told = told_at scenario.0;
        read = text-told text (record { mode = mode; behind = rest 2 (scenario_rows s ++ later) }) (told_at scenario.0) (rest numbers.0 []) headed scenario.1 passed;
        mode_is = refl;
        scenario_is = refl;
        journals = journals.1;
        numbers = journals.2;
      }

pub reports_read_back : ReportsAreReadBack
reports_read_back mode s js text is = read_back mode s js text is
