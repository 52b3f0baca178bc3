-- A right report is that of a run.
use Rattle.std.proofs.Common.{◌≡◌, ℕ, ◌-◌, ◌^◌, ◌<◌, List, [], ◌∷◌, ◌++◌, length, map, None, refl, sym, ap, ap₂, subst, ◌∙◌}
use Rattle.std.specs.Prelude.{Result, Ok, Err}
use Rattle.std.specs.List.{AllByRecursion}
use Rattle.board_model.specs.declared.scenario.Scenario.{Scenario}
use Rattle.board_model.specs.Board.{DomainJournal}
use Rattle.board_model.specs.Journal.{Line}
use Rattle.board_model.specs.LinkedBoard.{IsLinkedBoard}
use Rattle.board_model.specs.Grammar.{canonical}
use Rattle.board_model.specs.Report.{Mode, line_text, journals_text, lines_of, heading, report_of}
use Rattle.board_model.specs.Scenario.{rising}
use Rattle.board_model.proofs.LawfulBoards.{lawful_is_linked}
use Rattle.report_text.specs.declared.verdict.CheckReason.TheVariants as of
use Rattle.report_text.specs.declared.verdict.Verdict.{Verdict}
use Rattle.report_text.specs.declared.verdict.Verdict.TheVariants.{Right}
use Rattle.report_text.specs.JournalRead.{JournalText, journals_at, behind_journals}
use Rattle.report_text.specs.LinkPass.{wrong_among, journal_told}
use Rattle.report_text.specs.RightRuns.{HasLines, journal_due, journals_due, PassesThree, TellsBoardRun}
use Rattle.report_text.specs.ScenarioPart.{Rest, Told, text_of}
use Rattle.report_text.specs.StepPass.{wrong_step, unfinished}
use Rattle.report_text.specs.TextPass.{told_by_text}
use Rattle.report_text.specs.TotalPass.{number_texts, rings_due, wrong_ring_back, wrong_number, wrong_total}
use Rattle.report_text.specs.Verdicts.{wrong_or, by_steps, by_told, verdict_on}
use Rattle.report_text.proofs.NothingWrong.{none-either}
use Rattle.report_text.proofs.ReportsTold.{text-front, journals-right}
use Rattle.report_text.proofs.RightReports.{right_reports, right_numbers, right-or}
use Rattle.report_text.proofs.RunsTold.{IsRight, rising-lawful}
use Rattle.report_text.proofs.TotalsTold.{IsDue}
use Rattle.report_laws.specs.RunReports.{IsOfSomeRun, RightReportsAreOfRuns, report_due}
use Rattle.report_laws.proofs.BacksTold.{backs_told}
use Rattle.report_laws.proofs.RightTexts.{front-is, journals-lines, numbers-text}

-- ---- the lines

all-texts : (s : Scenario) (ts : List JournalText) → AllByRecursion (HasLines s) ts → AllByRecursion (λ j. map line_text (lines_of (journal_due s j)) ≡ j.texts) ts
all-texts s [] has = tt
all-texts s (t ∷ ts) has = (has.0.texts, all-texts s ts has.1)

lines-map : (s : Scenario) (ts : List JournalText) → map (λ j. lines_of (journal_due s j)) ts ≡ map lines_of (map (journal_due s) ts)
lines-map s [] = refl
lines-map s (t ∷ ts) = ap (λ (ls : List (List Line)). lines_of (journal_due s t) ∷ ls) (lines-map s ts)

-- ---- what the passes found

right-steps : (s : Scenario) (js : List JournalText) (next : Verdict) → by_steps s js next ≡ Right → AllByRecursion (λ j. wrong_step s j ≡ None) js × (next ≡ Right)
right-steps s [] next e = (tt, e)
right-steps s (j ∷ js) next e =
    let step = right-or of.Step (wrong_step s j) (wrong_or of.Script (unfinished s j) (by_steps s js next)) e in
    let whole = right-or of.Script (unfinished s j) (by_steps s js next) step.1 in
    let rest = right-steps s js next whole.1 in
    ((step.0, rest.0), rest.1)

dues : (s : Scenario) (board : IsLinkedBoard s) (js : List JournalText) → AllByRecursion (IsRight s board) js → AllByRecursion (λ j. wrong_step s j ≡ None) js → AllByRecursion (IsDue s board) js
dues s board [] right steps = tt
dues s board (j ∷ js) right steps = (record { right = right.0; steps = steps.0 }, dues s board js right.1 steps.1)

-- ---- the text

report-is : (mode : Mode) (s : Scenario) (js : List DomainJournal) → heading mode ++ (canonical s ++ (journals_text (rising s) (map lines_of js) ++ text_of (number_texts s js (rings_due mode s js)))) ≡ report_due mode s js
unfolding report_of
report-is mode s js = ap (λ (u : List ℕ). heading mode ++ (canonical s ++ (journals_text (rising s) (map lines_of js) ++ u))) (numbers-text s js (rings_due mode s js))

module _ (text : List ℕ) (short : length text < 2 ^ 32 - 1) (right : verdict_on text ≡ Right) (t : Told) (read : told_by_text text ≡ Ok t) where
  abbrev s : Scenario
  s = t.scenario

  abbrev ts : List JournalText
  ts = journals_at (rising t.scenario) t.behind

  abbrev numbers : Rest
  numbers = behind_journals (rising t.scenario) t.behind

  tells : TellsBoardRun t
  tells = right_reports text t short read (subst PassesThree (sym right) tt)

  written : text ≡ report_due t.mode t.scenario (journals_due t)
  written =
      let board = lawful_is_linked s tells.lawful in
      let front = text-front text t read in
      let lines : text_of t.behind.lines ≡ journals_text (rising s) (map (λ j. lines_of (journal_due s j)) ts) ++ text_of numbers.lines =
      journals-lines s board (λ j. lines_of (journal_due s j)) (rising s) t.behind front.behind (rising-lawful s board) front.lines front.journals (all-texts s ts tells.written) in
      front-is text t read
      ∙ ap (λ (u : List ℕ). heading t.mode ++ (canonical s ++ u)) (lines ∙ ap₂ (λ (ls : List (List Line)) (ks : List (List ℕ)). journals_text (rising s) ls ++ text_of ks) (lines-map s ts) (right_numbers text t short read right))
      ∙ report-is t.mode s (journals_due t)

  is-run : IsOfSomeRun text
  is-run =
      let board = lawful_is_linked s tells.lawful in
      let firsts = journals-right text t read board (rising-lawful s board) in
      let passes : by_told (Ok t) ≡ Right = sym (ap by_told read) ∙ right in
      let next : Verdict = wrong_or of.Link (wrong_among s ts ts) (wrong_or of.Total (wrong_total t.mode s ts numbers) Right) in
      let steps = right-steps s ts next passes in
      let links = right-or of.Link (wrong_among s ts ts) (wrong_or of.Total (wrong_total t.mode s ts numbers) Right) steps.1 in
      let total = right-or of.Total (wrong_total t.mode s ts numbers) Right links.1 in
      let back = (none-either (wrong_ring_back t.mode s ts) (wrong_number t.mode s (map (journal_told s) ts) numbers) total.0).0 in
      record {
        mode = t.mode;
        scenario = t.scenario;
        journals = journals_due t;
        report = record {
          lawful = tells.lawful;
          run = tells.run;
          whole = tells.whole;
          backs = backs_told t.mode s board ts (dues s board ts firsts steps.0) back;
          written = written;
        };
      }

pub right_run : RightReportsAreOfRuns
right_run text short right = go (told_by_text text) refl right
  where
    go : (o : Result Told ℕ) → told_by_text text ≡ o → by_told o ≡ Right → IsOfSomeRun text
    go (Ok t) read e = is-run text short right t read
    go (Err n) read e = absurd cc
