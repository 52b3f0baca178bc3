use Rattle.std.proofs.Common.{◌≡◌, ℕ, List, map, sym, ap, subst, ◌∙◌}
use Rattle.std.specs.List.{AllByRecursion}
use Rattle.board_model.specs.Board.{DomainJournal}
use Rattle.board_model.specs.Scenario.{rising}
use Rattle.board_model.specs.SerialRun.{Station}
use Rattle.report_text.specs.JournalRead.{journals_at}
use Rattle.report_text.specs.LinkPass.{journal_told}
use Rattle.report_text.specs.ScenarioPart.{Rest}
use Rattle.report_text.specs.TextLines.{first_other, lines_in, moved}
use Rattle.report_text.specs.TextRead.{told_of}
use Rattle.report_text.specs.TotalPass.{number_texts, rings_due}
use Rattle.report_totals.specs.EndedJournals.{AreEnded, CountsAsTold}
use Rattle.report_totals.specs.JournalTallies.{EndRun, EndSomeRun}
use Rattle.report_totals.proofs.ReportRuns.{same-many, stations, lawful, numbers-due, end-run, end-some, counts-told}
use Rattle.report_totals.proofs.pass.wrong_number.Goals as goal

pub ended_journals-requires : goal.ended_journals-requires
ended_journals-requires c =
    let t = told_of c.args.told.now in
    same-many t.scenario (journals_at (rising t.scenario) t.behind) c.args.journals.now c.args.states.now c.requires.journals c.requires.states

pub due_numbers-requires-clause-lawful : goal.due_numbers-requires-clause-lawful
due_numbers-requires-clause-lawful c = lawful (told_of c.args.told.now) c.requires.passed

pub due_numbers-requires-clause-told : goal.due_numbers-requires-clause-told
due_numbers-requires-clause-told c =
    let t = told_of c.args.told.now in
    let es = c.in_ok-domains.domains.items in
    let is : AreEnded t.scenario c.args.journals.now c.args.states.now es = c.in_ok-domains.ensures in
    subst (AllByRecursion CountsAsTold) (sym c.deref.ensures.value) (counts-told t c.requires.passed c.args.journals.now c.args.states.now es c.requires.journals c.requires.states is)

pub due_numbers-requires-clause-run : goal.due_numbers-requires-clause-run
due_numbers-requires-clause-run c =
    let t = told_of c.args.told.now in
    let es = c.in_ok-domains.domains.items in
    let is : AreEnded t.scenario c.args.journals.now c.args.states.now es = c.in_ok-domains.ensures in
    let run : EndSomeRun t.scenario es = end-some t c.requires.passed c.args.journals.now c.args.states.now es c.requires.journals c.requires.states is in
    subst (EndSomeRun t.scenario) (sym c.deref.ensures.value) run

pub returns : goal.returns
returns c =
    let t = told_of c.args.told.now in
    let s = t.scenario in
    let es = c.in_ok-domains.domains.items in
    let is : AreEnded s c.args.journals.now c.args.states.now es = c.in_ok-domains.ensures in
    let ts : List Station = stations t c.requires.passed in
    let ended : EndRun s ts es = end-run t c.requires.passed c.args.journals.now c.args.states.now es c.requires.journals c.requires.states is in
    let run : EndRun s ts c.deref.result.now = subst (EndRun s ts) (sym c.deref.ensures.value) ended in
    let js : List DomainJournal = map (journal_told s) (journals_at (rising s) t.behind) in
    let rings : List (List ℕ) = rings_due t.mode s js in
    let due : lines_in c.deref-2.result.now ≡ number_texts s js rings = ap lines_in c.deref-2.ensures.value ∙ c.in_ok-due.ensures ts rings run c.requires.rings ∙ numbers-due t c.requires.passed rings in
    c.number_of_other.ensures
    ∙ ap (λ (ls : List (List ℕ)). moved c.args.numbers.line (first_other (lines_in c.args.numbers.text.now) ls)) due
    ∙ ap (λ (r : Rest). moved r.number (first_other r.lines (number_texts s js rings))) c.requires.numbers
