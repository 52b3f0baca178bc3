-- Reports in which the first three passes find nothing wrong tell runs of boards.
use Rattle.std.proofs.Common.{◌≡◌, ℕ, ◌-◌, ◌^◌, ◌<◌, List, [], ◌∷◌, length, map, Option, Some, None, refl, sym, ap, subst, ◌∙◌}
use Rattle.std.specs.Prelude.{Ok}
use Rattle.board_model.specs.LinkedBoard.{IsLinkedBoard}
use Rattle.std.specs.List.{AllByRecursion}
use Rattle.board_model.specs.declared.scenario.DomainLine.{DomainLine}
use Rattle.board_model.specs.declared.scenario.Scenario.{Scenario}
use Rattle.board_model.specs.Board.{DomainJournal}
use Rattle.board_model.specs.Report.{Mode, serial, threads}
use Rattle.board_model.specs.Scenario.{rising}
use Rattle.board_model.proofs.LawfulBoards.{lawful_is_linked}
use Rattle.board_model.proofs.MessageAlls.{all-weaken}
use Rattle.report_text.specs.declared.verdict.CheckReason.{CheckReason}
use Rattle.report_text.specs.declared.verdict.CheckReason.TheVariants as of
use Rattle.report_text.specs.declared.verdict.Verdict.{Verdict}
use Rattle.report_text.specs.declared.verdict.Verdict.TheVariants.{Right, Wrong}
use Rattle.board_model.specs.Unjoined.{peers_of}
use Rattle.report_text.specs.ScenarioPart.{Rest, Told}
use Rattle.report_text.specs.TextPass.{told_by_text}
use Rattle.report_text.specs.JournalRead.{JournalText, behind_journal, journals_at, behind_journals}
use Rattle.report_text.specs.LinkPass.{journal_told, wrong_among}
use Rattle.report_text.specs.TextLines.{first_other}
use Rattle.report_text.specs.RingPass.{ring_texts}
use Rattle.report_text.specs.TotalPass.{number_texts, rings_due, wrong_number, wrong_ring_back, wrong_total}
use Rattle.report_text.specs.Verdicts.{wrong_or, by_steps, by_told, verdict_on}
use Rattle.report_text.proofs.TurnsDue.{Sound}
use Rattle.report_text.specs.StepPass.{wrong_step, unfinished, left_behind}
use Rattle.report_text.specs.RightRuns.{TellsRun, RightStepsTellRuns, PassesThree, journals_due, RightReportsTellRuns, RightNumbersAreDue}
use Rattle.report_text.proofs.RunsTold.{IsRight, rising-lawful, told-steps, run-told}
use Rattle.report_text.proofs.ReportsTold.{text-lawful, journals-right}
use Rattle.report_text.proofs.BoardsTold.{board-run}
use Rattle.report_text.proofs.LinesTold.{texts-same}
use Rattle.report_text.proofs.NothingWrong.{none-moved, none-either}
use Rattle.report_text.proofs.TotalsTold.{IsDue, numbers-same, rings-same}

pub right_steps : RightStepsTellRuns
right_steps text t short told =
    let lawful = text-lawful text t short told in
    let board = lawful_is_linked t.scenario lawful in
    all-weaken (IsRight t.scenario board) (λ (j : JournalText). wrong_step t.scenario j ≡ None → TellsRun t.scenario j) (λ j right none. run-told t.scenario board j right none) (journals_at (rising t.scenario) t.behind) (journals-right text t told board (rising-lawful t.scenario board))

-- ---- by the verdict

passes-or : (reason : CheckReason) (o : Option ℕ) (v : Verdict) → ((line : ℕ) → PassesThree (Wrong line reason) → ⊥) → PassesThree (wrong_or reason o v) → (o ≡ None) × PassesThree v
passes-or reason None v never h = (refl, h)
passes-or reason (Some line) v never h = absurd (never line h)

passes-steps : (s : Scenario) (js : List JournalText) (next : Verdict) → PassesThree (by_steps s js next) → AllByRecursion (λ j. (wrong_step s j ≡ None) × (unfinished s j ≡ None)) js × PassesThree next
passes-steps s [] next h = (tt, h)
passes-steps s (j ∷ js) next h =
    let step = passes-or of.Step (wrong_step s j) (wrong_or of.Script (unfinished s j) (by_steps s js next)) (λ line no. no) h in
    let whole = passes-or of.Script (unfinished s j) (by_steps s js next) (λ line no. no) step.1 in
    let rest = passes-steps s js next whole.1 in
    (((step.0, whole.0), rest.0), rest.1)

journals-lines : (ds : List DomainLine) (r : Rest) → map (λ j. j.line) (journals_at ds r) ≡ ds
journals-lines [] r = refl
journals-lines (d ∷ ds) r = ap (λ ls. d ∷ ls) (journals-lines ds (behind_journal r))

all-due : (s : Scenario) (board : IsLinkedBoard s) (js : List JournalText) → AllByRecursion (IsRight s board) js → AllByRecursion (λ j. (wrong_step s j ≡ None) × (unfinished s j ≡ None)) js → AllByRecursion (IsDue s board) js
all-due s board [] right steps = tt
all-due s board (j ∷ js) right steps = (record { right = right.0; steps = steps.0.0 }, all-due s board js right.1 steps.1)

pub right_reports : RightReportsTellRuns
right_reports text t short told passes =
    let lawful = text-lawful text t short told in
    let s : Scenario = t.scenario in
    let js : List JournalText = journals_at (rising s) t.behind in
    let board = lawful_is_linked s lawful in
    let right = journals-right text t told board (rising-lawful s board) in
    let steps = passes-steps s js _ (subst PassesThree (ap by_told told) passes) in
    let links = passes-or of.Link (wrong_among s js js) _ (λ line no. no) steps.1 in
    let all = board-run s board js right (journals-lines (rising s) t.behind) steps.0 links.0 in
    record { lawful = lawful; run = all.run; whole = all.whole; written = all.written; numbers = numbers-same s board js (all-due s board js right steps.0); rings = rings-same s board js (all-due s board js right steps.0) }

-- ---- the states

all-sound : (s : Scenario) (board : IsLinkedBoard s) (js : List JournalText) → AllByRecursion (IsRight s board) js → AllByRecursion (λ j. (wrong_step s j ≡ None) × (unfinished s j ≡ None)) js → AllByRecursion (λ j. Sound (peers_of s j.line) (left_behind s j).state) js
all-sound s board [] right steps = tt
all-sound s board (j ∷ js) right steps = ((told-steps s board j right.0 steps.0.0).1.sound, all-sound s board js right.1 steps.1)

-- each domain knows its neighbours at its journal's end, and holds no more of a lane's buffers than there are
pub reports-sound : (text : List ℕ) (t : Told) → length text < 2 ^ 32 - 1 → told_by_text text ≡ Ok t → PassesThree (verdict_on text) → AllByRecursion (λ j. Sound (peers_of t.scenario j.line) (left_behind t.scenario j).state) (journals_at (rising t.scenario) t.behind)
reports-sound text t short told passes =
    let s : Scenario = t.scenario in
    let js : List JournalText = journals_at (rising s) t.behind in
    let board = lawful_is_linked s (text-lawful text t short told) in
    let right = journals-right text t told board (rising-lawful s board) in
    let steps = passes-steps s js _ (subst PassesThree (ap by_told told) passes) in
    all-sound s board js right steps.0

-- ---- the numbers

pub right-or : (reason : CheckReason) (o : Option ℕ) (v : Verdict) → wrong_or reason o v ≡ Right → (o ≡ None) × (v ≡ Right)
right-or reason None v e = (refl, e)
right-or reason (Some line) v e = absurd cc

right-behind : (s : Scenario) (js : List JournalText) (next : Verdict) → by_steps s js next ≡ Right → next ≡ Right
right-behind s [] next e = e
right-behind s (j ∷ js) next e =
    let step = right-or of.Step (wrong_step s j) (wrong_or of.Script (unfinished s j) (by_steps s js next)) e in
    let whole = right-or of.Script (unfinished s j) (by_steps s js next) step.1 in
    right-behind s js next whole.1

pub rings-due-same : (mode : Mode) (s : Scenario) (dues tolds : List DomainJournal) → ring_texts s dues ≡ ring_texts s tolds → rings_due mode s dues ≡ rings_due mode s tolds
rings-due-same serial s dues tolds same = refl
rings-due-same threads s dues tolds same = same

pub right_numbers : RightNumbersAreDue
right_numbers text t short told verdict =
    let s : Scenario = t.scenario in
    let js : List JournalText = journals_at (rising s) t.behind in
    let numbers : Rest = behind_journals (rising s) t.behind in
    let passes : by_told (Ok t) ≡ Right = sym (ap by_told told) ∙ verdict in
    let next : Verdict = wrong_or of.Link (wrong_among s js js) (wrong_or of.Total (wrong_total t.mode s js numbers) Right) in
    let links = right-or of.Link (wrong_among s js js) (wrong_or of.Total (wrong_total t.mode s js numbers) Right) (right-behind s js next passes) in
    let total = right-or of.Total (wrong_total t.mode s js numbers) Right links.1 in
    let tolds : List DomainJournal = map (journal_told s) js in
    let due : List (List ℕ) = number_texts s tolds (rings_due t.mode s tolds) in
    let none = (none-either (wrong_ring_back t.mode s js) (wrong_number t.mode s tolds numbers) total.0).1 in
    let run = right_reports text t short told (subst PassesThree (sym verdict) tt) in
    texts-same numbers.lines due (none-moved numbers.number (first_other numbers.lines due) none)
    ∙ sym (run.numbers (rings_due t.mode s (journals_due t)) ∙ ap (number_texts s tolds) (rings-due-same t.mode s (journals_due t) tolds run.rings))
