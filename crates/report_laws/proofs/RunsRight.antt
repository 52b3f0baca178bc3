-- The report of a whole run is right, and tells that run alone.
use Rattle.std.proofs.Common.{◌≡◌, ℕ, ◌-◌, ◌^◌, ◌<◌, List, [], ◌∷◌, length, map, None, refl, sym, ap, ap₂, subst, ◌∙◌}
use Rattle.std.specs.Prelude.{Result, Ok}
use Rattle.std.specs.List.{AllByRecursion}
use Rattle.board_model.specs.declared.scenario.Scenario.{Scenario}
use Rattle.board_model.specs.Board.{DomainJournal}
use Rattle.board_model.specs.LinkedBoard.{IsLinkedBoard}
use Rattle.board_model.specs.Report.{Mode}
use Rattle.board_model.specs.Run.{IsDomainRun, IsWhole}
use Rattle.board_model.specs.Scenario.{rising}
use Rattle.board_model.proofs.LawfulBoards.{lawful_is_linked}
use Rattle.report_text.specs.declared.verdict.CheckReason.TheVariants as of
use Rattle.report_text.specs.declared.verdict.Verdict.{Verdict}
use Rattle.report_text.specs.declared.verdict.Verdict.TheVariants.{Right}
use Rattle.report_text.specs.JournalRead.{JournalText, journals_at, behind_journals}
use Rattle.report_text.specs.LinkPass.{journal_told, wrong_among}
use Rattle.report_text.specs.RightRuns.{journal_due, journals_due}
use Rattle.report_text.specs.ScenarioPart.{Rest, Told}
use Rattle.report_text.specs.StepPass.{unfinished}
use Rattle.report_text.specs.TextLines.{first_other, moved, or_else}
use Rattle.report_text.specs.TextPass.{told_by_text}
use Rattle.report_text.specs.TotalPass.{number_texts, rings_due, wrong_number, wrong_total}
use Rattle.report_text.specs.Verdicts.{wrong_or, by_steps, by_told, verdict_on}
use Rattle.report_text.proofs.ReportsTold.{journals-right}
use Rattle.report_text.proofs.RunsTold.{IsRight, rising-lawful}
use Rattle.report_text.proofs.TotalsTold.{IsDue, numbers-same, rings-same}
use Rattle.report_text.proofs.LinesTold.{first-same}
use Rattle.report_text.proofs.RightReports.{rings-due-same}
use Rattle.report_laws.specs.RunReports.{IsRunReport, ReportsAreOfOneRun, RunReportsAreRight}
use Rattle.report_laws.specs.Reasons.{AreTextsOf}
use Rattle.report_laws.proofs.Pieces.{IsReadBack, HaveRightSteps, AreToldRuns}
use Rattle.report_laws.proofs.TextsReadBack.{reports_read_back}
use Rattle.report_laws.proofs.StepsRight.{steps_right}
use Rattle.report_laws.proofs.LanesFit.{lanes_fit}
use Rattle.report_laws.proofs.BacksFit.{backs_fit}
use Rattle.report_laws.proofs.ToldRuns.{dues-are}

module _ (s : Scenario) (board : IsLinkedBoard s) where
  pub steps-of : (js : List DomainJournal) (ts : List JournalText) → AllByRecursion (IsRight s board) ts → AreTextsOf js ts → AllByRecursion (λ j. IsDomainRun s j.line j.entries) js → AllByRecursion (λ j. IsWhole s j.line j.entries) js → HaveRightSteps s js ts
  steps-of [] [] right texts runs whole = tt
  steps-of [] (t ∷ ts) right texts runs whole = absurd texts
  steps-of (j ∷ js) [] right texts runs whole = absurd texts
  steps-of (j ∷ js) (t ∷ ts) right texts runs whole = (steps_right s board j t right.0 texts.0 runs.0 whole.0, steps-of js ts right.1 texts.1 runs.1 whole.1)

  all-due : (js : List DomainJournal) (ts : List JournalText) → AllByRecursion (IsRight s board) ts → HaveRightSteps s js ts → AllByRecursion (IsDue s board) ts
  all-due [] [] right steps = tt
  all-due [] (t ∷ ts) right steps = absurd steps
  all-due (j ∷ js) [] right steps = absurd steps
  all-due (j ∷ js) (t ∷ ts) right steps = (record { right = right.0; steps = steps.0.steps }, all-due js ts right.1 steps.1)

-- the verdict goes on behind the second pass
steps-passed : (s : Scenario) (js : List DomainJournal) (ts : List JournalText) (next : Verdict) → HaveRightSteps s js ts → by_steps s ts next ≡ next
steps-passed s [] [] next steps = refl
steps-passed s [] (t ∷ ts) next steps = absurd steps
steps-passed s (j ∷ js) [] next steps = absurd steps
steps-passed s (j ∷ js) (t ∷ ts) next steps =
    ap (λ o. wrong_or of.Step o (wrong_or of.Script (unfinished s t) (by_steps s ts next))) steps.0.steps
    ∙ ap (λ o. wrong_or of.Script o (by_steps s ts next)) steps.0.whole
    ∙ steps-passed s js ts next steps.1

-- the lines of rings are those of the journals that are told
module _ (text : List ℕ) (t : Told) (read : told_by_text text ≡ Ok t) (js : List DomainJournal) (run : IsRunReport t.mode t.scenario js text) where
  abbrev s : Scenario
  s = t.scenario

  abbrev ts : List JournalText
  ts = journals_at (rising t.scenario) t.behind

  abbrev numbers : Rest
  numbers = behind_journals (rising t.scenario) t.behind

  board : IsLinkedBoard t.scenario
  board = lawful_is_linked t.scenario run.lawful

  right : AllByRecursion (IsRight t.scenario board) ts
  right = journals-right text t read board (rising-lawful t.scenario board)

  -- the journals that the text tells, with the answers that are due, are the run's
  told-runs : AreTextsOf js ts → AreToldRuns s board js ts
  told-runs texts = record { run = run.run; texts = texts; right = right; steps = steps-of s board js ts right texts run.run.domain_runs run.whole }

  told-journals : AreTextsOf js ts → journals_due t ≡ js
  told-journals texts = dues-are s board js ts (told-runs texts)

  told-right : AreTextsOf js ts → numbers.lines ≡ number_texts s js (rings_due t.mode s js) → verdict_on text ≡ Right
  told-right texts lines =
      let told = told-runs texts in
      let due : AllByRecursion (IsDue s board) ts = all-due s board js ts right told.steps in
      let same : map (journal_due s) ts ≡ js = dues-are s board js ts told in
      let tolds : List DomainJournal = map (journal_told s) ts in
      let rings : rings_due t.mode s js ≡ rings_due t.mode s tolds = ap (rings_due t.mode s) (sym same) ∙ rings-due-same t.mode s (map (journal_due s) ts) tolds (rings-same s board ts due) in
      let due_lines : number_texts s js (rings_due t.mode s js) ≡ number_texts s tolds (rings_due t.mode s tolds) =
      ap₂ (number_texts s) (sym same) rings ∙ numbers-same s board ts due (rings_due t.mode s tolds) in
      let number : wrong_number t.mode s tolds numbers ≡ None =
      ap (λ ls. moved numbers.number (first_other ls (number_texts s tolds (rings_due t.mode s tolds)))) (lines ∙ due_lines)
      ∙ ap (moved numbers.number) (first-same (number_texts s tolds (rings_due t.mode s tolds))) in
      let total : wrong_total t.mode s ts numbers ≡ None = ap₂ or_else (backs_fit t.mode s board js ts told run.backs) number in
      ap by_told read
      ∙ steps-passed s js ts (wrong_or of.Link (wrong_among s ts ts) (wrong_or of.Total (wrong_total t.mode s ts numbers) Right)) told.steps
      ∙ ap (λ o. wrong_or of.Link o (wrong_or of.Total (wrong_total t.mode s ts numbers) Right)) (lanes_fit s board js ts told)
      ∙ ap (λ o. wrong_or of.Total o Right) total

-- what is read back is the mode and the scenario of the run, so all that is known of the run is known of these
told-as : (mode : Mode) (s : Scenario) (js : List DomainJournal) (text : List ℕ) → IsRunReport mode s js text → (t : Told) → t.mode ≡ mode → t.scenario ≡ s → IsRunReport t.mode t.scenario js text
told-as mode s js text run t same_mode same_scenario = subst (λ m. IsRunReport m t.scenario js text) (sym same_mode) (subst (λ x. IsRunReport mode x js text) (sym same_scenario) run)

numbers-as : (mode : Mode) (s : Scenario) (js : List DomainJournal) (t : Told) → t.mode ≡ mode → t.scenario ≡ s → (behind_journals (rising s) t.behind).lines ≡ number_texts s js (rings_due mode s js) → (behind_journals (rising t.scenario) t.behind).lines ≡ number_texts t.scenario js (rings_due t.mode t.scenario js)
numbers-as mode s js t same_mode same_scenario lines =
    subst (λ m. (behind_journals (rising t.scenario) t.behind).lines ≡ number_texts t.scenario js (rings_due m t.scenario js)) (sym same_mode)
    (subst (λ x. (behind_journals (rising x) t.behind).lines ≡ number_texts x js (rings_due mode x js)) (sym same_scenario) lines)

texts-as : (s : Scenario) (js : List DomainJournal) (t : Told) → t.scenario ≡ s → AreTextsOf js (journals_at (rising s) t.behind) → AreTextsOf js (journals_at (rising t.scenario) t.behind)
texts-as s js t same texts = subst (λ x. AreTextsOf js (journals_at (rising x) t.behind)) (sym same) texts

pub runs_right : RunReportsAreRight
runs_right mode s js text run =
    let back : IsReadBack mode s js text = reports_read_back mode s js text run in
    let t : Told = back.told in
    told-right text t back.read js (told-as mode s js text run t back.mode_is back.scenario_is)
    (texts-as s js t back.scenario_is back.journals)
    (numbers-as mode s js t back.mode_is back.scenario_is back.numbers)

-- ---- the text of a report tells its run

pub record TellsRun (mode : Mode) (s : Scenario) (js : List DomainJournal) (text : List ℕ) : Type 0 where
  pub told : Told
  pub read : told_by_text text ≡ Ok told
  pub mode_is : told.mode ≡ mode
  pub scenario_is : told.scenario ≡ s
  pub journals : journals_due told ≡ js

pub run-told : (mode : Mode) (s : Scenario) (js : List DomainJournal) (text : List ℕ) → IsRunReport mode s js text → TellsRun mode s js text
run-told mode s js text run =
    let back : IsReadBack mode s js text = reports_read_back mode s js text run in
    record {
      told = back.told;
      read = back.read;
      mode_is = back.mode_is;
      scenario_is = back.scenario_is;
      journals = told-journals text back.told back.read js (told-as mode s js text run back.told back.mode_is back.scenario_is) (texts-as s js back.told back.scenario_is back.journals);
    }

same-told : (x y : Told) → ◌≡◌ {A = Result Told ℕ} (Ok x) (Ok y) → x ≡ y
same-told x y e = cc

pub one_run : ReportsAreOfOneRun
one_run text m n s t js ks first second =
    let one = run-told m s js text first in
    let two = run-told n t ks text second in
    let same : one.told ≡ two.told = same-told one.told two.told (sym one.read ∙ two.read) in
    record {
      mode = sym one.mode_is ∙ ap (λ (x : Told). x.mode) same ∙ two.mode_is;
      scenario = sym one.scenario_is ∙ ap (λ (x : Told). x.scenario) same ∙ two.scenario_is;
      journals = sym one.journals ∙ ap journals_due same ∙ two.journals;
    }
