-- The verdict on a report, pass by pass.
use Rattle.std.proofs.Common.{◌≡◌, ℕ, ◌-◌, ◌^◌, ◌<◌, length, List, [], ◌∷◌, Option, None, Some, Ok, refl, sym, ap, subst, ◌∙◌}
use Rattle.board_model.specs.declared.scenario.Scenario.{Scenario}
use Rattle.std.specs.List.{AllByRecursion}
use Rattle.board_model.specs.LinkedBoard.{IsLinkedBoard}
use Rattle.board_model.specs.Scenario.{rising}
use Rattle.board_model.proofs.LawfulBoards.{lawful_is_linked}
use Rattle.report_text.specs.declared.verdict.CheckReason.TheVariants as of
use Rattle.report_text.specs.declared.verdict.Verdict.{Verdict}
use Rattle.report_text.specs.declared.verdict.Verdict.TheVariants.{Right, Wrong}
use Rattle.report_text.specs.JournalRead.{JournalText, journals_at, behind_journals}
use Rattle.report_text.specs.LinkPass.{wrong_among}
use Rattle.report_text.specs.RightRuns.{PassesThree}
use Rattle.report_text.specs.ScenarioPart.{Rest, Told}
use Rattle.report_text.specs.StepPass.{unfinished}
use Rattle.report_text.specs.TextPass.{told_by_text}
use Rattle.report_text.specs.TotalPass.{wrong_total}
use Rattle.report_text.specs.Verdicts.{wrong_or, by_steps, by_told, verdict_on}
use Rattle.report_text.proofs.ReportsTold.{text-lawful, journals-right}
use Rattle.report_text.proofs.RunsTold.{IsRight, rising-lawful}
use Rattle.report_check.specs.RightSteps.{HaveRightSteps}
use Rattle.report_check.specs.Walks.{AreRight}

steps-right : (s : Scenario) (js : List JournalText) (next : Verdict) → AreRight s js → by_steps s js next ≡ next
steps-right s [] next right = refl
steps-right s (j ∷ js) next right =
    ap (λ o. wrong_or of.Step o (wrong_or of.Script (unfinished s j) (by_steps s js next))) right.0.0
    ∙ ap (λ o. wrong_or of.Script o (by_steps s js next)) right.0.1
    ∙ steps-right s js next right.1

module _ (report : List ℕ) (t : Told) (told : told_by_text report ≡ Ok t) where
  abbrev journals : List JournalText
  journals = journals_at (rising t.scenario) t.behind

  abbrev numbers : Rest
  numbers = behind_journals (rising t.scenario) t.behind

  abbrev by_totals : Verdict
  by_totals = wrong_or of.Total (wrong_total t.mode t.scenario journals numbers) Right

  -- the first wrong step
  pub by-steps : (v : Verdict) → ((next : Verdict) → by_steps t.scenario journals next ≡ v) → v ≡ verdict_on report
  by-steps v wrong = sym (ap by_told told ∙ wrong (wrong_or of.Link (wrong_among t.scenario journals journals) by_totals))

  by-links : AreRight t.scenario journals → (o : Option ℕ) → wrong_among t.scenario journals journals ≡ o → verdict_on report ≡ wrong_or of.Link o by_totals
  by-links right o is = ap by_told told ∙ steps-right t.scenario journals (wrong_or of.Link (wrong_among t.scenario journals journals) by_totals) right ∙ ap (λ x. wrong_or of.Link x by_totals) is

  -- the first line that does not fit its lane
  pub by-link : AreRight t.scenario journals → (line : ℕ) → Some line ≡ wrong_among t.scenario journals journals → Wrong line of.Link ≡ verdict_on report
  by-link right line is = sym (by-links right (Some line) (sym is))

  -- the first line of the fourth pass, where no lane is wrong
  pub by-totals : AreRight t.scenario journals → None ≡ wrong_among t.scenario journals journals → (o : Option ℕ) → o ≡ wrong_total t.mode t.scenario journals numbers → wrong_or of.Total o Right ≡ verdict_on report
  by-totals right none o is = sym (by-links right None (sym none) ∙ ap (λ x. wrong_or of.Total x Right) (sym is))

  pub passes : AreRight t.scenario journals → None ≡ wrong_among t.scenario journals journals → PassesThree (verdict_on report)
  passes right none = subst PassesThree (sym (by-links right None (sym none))) (go (wrong_total t.mode t.scenario journals numbers))
    where
      go : (o : Option ℕ) → PassesThree (wrong_or of.Total o Right)
      go None = tt
      go (Some line) = tt

-- ---- what the passes before the third have found

all-right : (s : Scenario) (board : IsLinkedBoard s) (js : List JournalText) → AllByRecursion (IsRight s board) js → AreRight s js → HaveRightSteps s js
all-right s board [] told right = tt
all-right s board (j ∷ js) told right = (record { order = record { order = told.0.order; lawful = told.0.lawful }; steps = right.0.0 }, all-right s board js told.1 right.1)

pub right-steps : (report : List ℕ) (t : Told) → length report < 2 ^ 32 - 1 → told_by_text report ≡ Ok t → AreRight t.scenario (journals_at (rising t.scenario) t.behind) → HaveRightSteps t.scenario (journals_at (rising t.scenario) t.behind)
right-steps report t short told right =
    let board = lawful_is_linked t.scenario (text-lawful report t short told) in
    all-right t.scenario board (journals_at (rising t.scenario) t.behind) (journals-right report t told board (rising-lawful t.scenario board)) right
