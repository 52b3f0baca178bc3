-- The reason for which a report is wrong says of its journals what it means.
use Rattle.std.proofs.Common.{◌≡◌, ℕ, suc, ◌-◌, ◌^◌, ◌<◌, List, [], ◌∷◌, length, map, Option, Some, None, refl, sym, ap, subst, ◌∙◌}
use Rattle.std.specs.Prelude.{Ok}
use Rattle.std.specs.List.{AllByRecursion}
use Rattle.board_model.specs.declared.scenario.Scenario.{Scenario}
use Rattle.board_model.specs.Scenario.{rising}
use Rattle.board_model.specs.LinkedBoard.{IsLinkedBoard}
use Rattle.board_model.specs.Run.{IsDomainRun}
use Rattle.board_model.proofs.LawfulBoards.{lawful_is_linked}
use Rattle.report_text.specs.declared.verdict.CheckReason.{CheckReason}
use Rattle.report_text.specs.declared.verdict.CheckReason.TheVariants as of
use Rattle.report_text.specs.declared.verdict.Verdict.{Verdict}
use Rattle.report_text.specs.declared.verdict.Verdict.TheVariants.{Right, Wrong}
use Rattle.report_text.specs.JournalRead.{JournalText, journals_at, behind_journals}
use Rattle.report_text.specs.LinkPass.{wrong_among}
use Rattle.report_text.specs.RightRuns.{HasLines, TellsRun, PassesThree, TellsBoardRun, journal_due, journals_due}
use Rattle.report_text.specs.ScenarioPart.{Told}
use Rattle.report_text.specs.StepPass.{wrong_step, unfinished}
use Rattle.report_text.specs.TextPass.{told_by_text}
use Rattle.report_text.specs.TotalPass.{wrong_total}
use Rattle.report_text.specs.Verdicts.{wrong_or, by_steps, by_told, verdict_on}
use Rattle.report_text.proofs.ReportsTold.{text-lawful, journals-right}
use Rattle.report_text.proofs.RightReports.{right_reports}
use Rattle.report_text.proofs.RunsTold.{IsRight, rising-lawful, run-told}
use Rattle.report_laws.specs.Reasons.{IsTextOf, AreTextsOf, IsOfNoRun, IsOfPart, IsOfWhole, HasOne, AreOfNoBoardRun, Explains, ReasonsAreOfRuns}
use Rattle.report_laws.proofs.LanesFit.{lanes_fit}
use Rattle.report_laws.proofs.RunsRight.{steps-of}
use Rattle.report_laws.proofs.StepsRight.{none-wrong, none-left}

some-none : {A : Type 0} (o : Option A) (x : A) → o ≡ Some x → o ≡ None → ⊥
some-none o x some none = let both : Some x ≡ None = sym some ∙ none in absurd cc

same-reason : (l m : ℕ) (r q : CheckReason) → Wrong l r ≡ Wrong m q → r ≡ q
same-reason l m r q e = cc

right-wrong : (m : ℕ) (q : CheckReason) → Right ≡ Wrong m q → ⊥
right-wrong m q e = absurd cc

-- ---- one journal

module _ (s : Scenario) (board : IsLinkedBoard s) (t : JournalText) (right : IsRight s board t) where
  of-no-run : (n : ℕ) → wrong_step s t ≡ Some n → IsOfNoRun s t
  of-no-run n wrong j is run = some-none (wrong_step s t) n wrong (none-wrong s board j t right is (subst (λ d. IsDomainRun s d j.entries) (sym is.line) run))

  due-text : TellsRun s t → IsTextOf (journal_due s t) t
  due-text tells = record { line = refl; texts = sym tells.written.texts }

  of-part : (n : ℕ) → wrong_step s t ≡ None → unfinished s t ≡ Some n → IsOfPart s t
  of-part n none left =
      let tells = run-told s board t right none in
      record {
        journal = journal_due s t;
        text = due-text tells;
        run = tells.run;
        not_whole = λ whole. some-none (unfinished s t) n left (none-left s board (journal_due s t) t right (due-text tells) tells.run whole);
      }

  of-whole : wrong_step s t ≡ None → unfinished s t ≡ None → IsOfWhole s t
  of-whole none whole =
      let tells = run-told s board t right none in
      record { journal = journal_due s t; text = due-text tells; run = tells.run; whole = tells.whole whole }

abbrev Passes : Scenario → JournalText → Type 0
Passes s t = (wrong_step s t ≡ None) × (unfinished s t ≡ None)

-- ---- the journals one after the other

-- a step or the end of a script is wrong, or the verdict is the next one
data BySteps (s : Scenario) (ts : List JournalText) (reason : CheckReason) (P : Type 0) : Type 0 where
  by_step : reason ≡ of.Step → HasOne (IsOfNoRun s) ts → BySteps s ts reason P
  by_script : reason ≡ of.Script → HasOne (IsOfPart s) ts → BySteps s ts reason P
  passed : AllByRecursion (Passes s) ts → P → BySteps s ts reason P

later : (P : JournalText → Type 0) (t : JournalText) (ts : List JournalText) → HasOne P ts → HasOne P (t ∷ ts)
later P t ts one = (suc one.0, one.1, one.2, one.3)

steps-say : (s : Scenario) (board : IsLinkedBoard s) (ts : List JournalText) (next : Verdict) (line : ℕ) (reason : CheckReason) → AllByRecursion (IsRight s board) ts → by_steps s ts next ≡ Wrong line reason → BySteps s ts reason (next ≡ Wrong line reason)
steps-say s board [] next line reason right e = passed tt e
steps-say s board (t ∷ ts) next line reason right e = by-step (λ is. steps-say s board ts next line reason right.1 is) (wrong_step s t) refl e
  where
    behind : Passes s t → BySteps s ts reason (next ≡ Wrong line reason) → BySteps s (t ∷ ts) reason (next ≡ Wrong line reason)
    behind here (by_step is one) = by_step is (later (IsOfNoRun s) t ts one)
    behind here (by_script is one) = by_script is (later (IsOfPart s) t ts one)
    behind here (passed all rest) = passed (here, all) rest

    by-end : (by_steps s ts next ≡ Wrong line reason → BySteps s ts reason (next ≡ Wrong line reason)) → wrong_step s t ≡ None → (o : Option ℕ) → unfinished s t ≡ o → wrong_or of.Script o (by_steps s ts next) ≡ Wrong line reason → BySteps s (t ∷ ts) reason (next ≡ Wrong line reason)
    by-end rest step None whole is = behind (step, whole) (rest is)
    by-end rest step (Some n) left is = by_script (sym (same-reason n line of.Script reason is)) (0, t, refl, of-part s board t right.0 n step left)

    by-step : (by_steps s ts next ≡ Wrong line reason → BySteps s ts reason (next ≡ Wrong line reason)) → (o : Option ℕ) → wrong_step s t ≡ o → wrong_or of.Step o (wrong_or of.Script (unfinished s t) (by_steps s ts next)) ≡ Wrong line reason → BySteps s (t ∷ ts) reason (next ≡ Wrong line reason)
    by-step rest None step is = by-end rest step (unfinished s t) refl is
    by-step rest (Some n) wrong is = by_step (sym (same-reason n line of.Step reason is)) (0, t, refl, of-no-run s board t right.0 n wrong)

-- ---- the lanes

all-whole : (s : Scenario) (board : IsLinkedBoard s) (ts : List JournalText) → AllByRecursion (IsRight s board) ts → AllByRecursion (Passes s) ts → AllByRecursion (IsOfWhole s) ts
all-whole s board [] right all = tt
all-whole s board (t ∷ ts) right all = (of-whole s board t right.0 all.0.0 all.0.1, all-whole s board ts right.1 all.1)

no-board : (s : Scenario) (board : IsLinkedBoard s) (ts : List JournalText) (n : ℕ) → AllByRecursion (IsRight s board) ts → wrong_among s ts ts ≡ Some n → AreOfNoBoardRun s ts
no-board s board ts n right wrong js texts run whole =
    some-none (wrong_among s ts ts) n wrong (lanes_fit s board js ts (record { run = run; texts = texts; right = right; steps = steps-of s board js ts right texts run.domain_runs whole }))

texts-due : (s : Scenario) (ts : List JournalText) → AllByRecursion (HasLines s) ts → AreTextsOf (map (journal_due s) ts) ts
texts-due s [] all = tt
texts-due s (t ∷ ts) all = (record { line = refl; texts = sym all.0.texts }, texts-due s ts all.1)

-- ---- the verdict

module _ (text : List ℕ) (line : ℕ) (reason : CheckReason) (short : length text < 2 ^ 32 - 1) (verdict : verdict_on text ≡ Wrong line reason) (t : Told) (told : told_by_text text ≡ Ok t) where
  abbrev ts : List JournalText
  ts = journals_at (rising t.scenario) t.behind

  board : IsLinkedBoard t.scenario
  board = lawful_is_linked t.scenario (text-lawful text t short told)

  right : AllByRecursion (IsRight t.scenario board) ts
  right = journals-right text t told board (rising-lawful t.scenario board)

  total-says : reason ≡ of.Total → Explains reason t.scenario ts
  total-says is =
      let all : TellsBoardRun t = right_reports text t short told (subst PassesThree (sym (verdict ∙ ap (Wrong line) is)) tt) in
      subst (λ r. Explains r t.scenario ts) (sym is) (record { journals = journals_due t; texts = texts-due t.scenario ts all.written; run = all.run; whole = all.whole })

  link-says : AllByRecursion (Passes t.scenario) ts → (o : Option ℕ) → wrong_among t.scenario ts ts ≡ o → (p : Option ℕ) → wrong_or of.Link o (wrong_or of.Total p Right) ≡ Wrong line reason → Explains reason t.scenario ts
  link-says all (Some n) wrong p is = subst (λ r. Explains r t.scenario ts) (same-reason n line of.Link reason is) (all-whole t.scenario board ts right all, no-board t.scenario board ts n right wrong)
  link-says all None fits (Some n) is = total-says (sym (same-reason n line of.Total reason is))
  link-says all None fits None is = absurd (right-wrong line reason is)

  explains : Explains reason t.scenario ts
  explains = go (steps-say t.scenario board ts _ line reason right (sym (ap by_told told) ∙ verdict))
    where
      go : BySteps t.scenario ts reason (wrong_or of.Link (wrong_among t.scenario ts ts) (wrong_or of.Total (wrong_total t.mode t.scenario ts (behind_journals (rising t.scenario) t.behind)) Right) ≡ Wrong line reason) → Explains reason t.scenario ts
      go (by_step is one) = subst (λ r. Explains r t.scenario ts) (sym is) one
      go (by_script is one) = subst (λ r. Explains r t.scenario ts) (sym is) one
      go (passed all rest) = link-says all (wrong_among t.scenario ts ts) refl (wrong_total t.mode t.scenario ts (behind_journals (rising t.scenario) t.behind)) rest

pub reasons-of-runs : ReasonsAreOfRuns
reasons-of-runs text line reason short verdict t told = explains text line reason short verdict t told
