-- No step of a run is wrong, and its journal is the one that its text tells with the answers that are due.
use Rattle.std.proofs.Common.{◌≡◌, ℕ, ◌+◌, cond, List, length, Option, Some, None, sym, ap, subst, ◌∙◌, arith}
use Rattle.std.specs.Prelude.{◌==◌}
use Rattle.std.specs.List.{flat_map}
use Rattle.board_model.specs.declared.scenario.DomainLine.{DomainLine}
use Rattle.board_model.specs.declared.scenario.Scenario.{Scenario}
use Rattle.board_model.specs.Board.{DomainJournal}
use Rattle.board_model.specs.Journal.{PlainEntry}
use Rattle.board_model.specs.JournalForm.{IsJournal}
use Rattle.board_model.specs.JournalParts.{part_entries}
use Rattle.board_model.specs.LinkedBoard.{IsLinkedBoard}
use Rattle.board_model.specs.Report.{lines_of}
use Rattle.board_model.specs.Run.{start, left_by, IsDomainRun, IsWhole}
use Rattle.board_model.specs.Scenario.{script}
use Rattle.board_model.specs.Step.{RunState}
use Rattle.board_model.specs.Unjoined.{peers_of, entries_in}
use Rattle.board_model.proofs.JournalFollows.{joined_back}
use Rattle.board_model.proofs.PlaceBoards.{neighbours_differ}
use Rattle.report_text.specs.JournalRead.{JournalText, lines_of_texts}
use Rattle.report_text.specs.LinkPass.{journal_told}
use Rattle.report_text.specs.RightRuns.{with_answers}
use Rattle.report_text.specs.StepPass.{parts_of, wrong_step, lines_left, left_behind, unfinished}
use Rattle.report_text.specs.TextLines.{moved}
use Rattle.report_text.proofs.EntriesTold.{unjoined-is}
use Rattle.report_text.proofs.LinesTold.{Tell}
use Rattle.report_text.proofs.RunsTold.{IsRight, told-parts, due-left}
use Rattle.report_text.proofs.StepsDue.{Due}
use Rattle.report_laws.specs.Reasons.{IsTextOf}
use Rattle.report_laws.proofs.Pieces.{StepsOfRunsAreRight}
use Rattle.report_laws.proofs.LineTexts.{texts-one}
use Rattle.report_laws.proofs.RunForms.{domain-run}
use Rattle.report_laws.proofs.EntriesAlike.{HaveOneEntry, entries-alike}
use Rattle.report_laws.proofs.RunsDue.{ToldRun, run-due}
use Rattle.report_laws.proofs.PartsRight.{parts-right}

module _ (s : Scenario) (board : IsLinkedBoard s) (j : DomainJournal) (t : JournalText) (right : IsRight s board t) (is : IsTextOf j t) where
  module _ (run : IsDomainRun s t.line j.entries) where
    form : IsJournal (peers_of s t.line) (script s t.line.domain) j.entries
    form = (domain-run s t.line j.entries run).form

    told : HaveOneEntry (journal_told s t).entries j.entries
    told =
        subst (HaveOneEntry (entries_in (peers_of s t.line) (script s t.line.domain) (lines_of_texts t.texts)))
        (joined_back (peers_of s t.line) (script s t.line.domain) (neighbours_differ s board t.line) j.entries form)
        (entries-alike (peers_of s t.line) (script s t.line.domain) (lines_of_texts t.texts) (lines_of j) (texts-one t.texts (lines_of_texts t.texts) (lines_of j) right.tells is.texts))

    told-run : ToldRun (script s t.line.domain) (start s t.line) (journal_told s t).entries j.entries
    told-run = run-due (script s t.line.domain) (journal_told s t).entries j.entries (start s t.line) (left_by s t.line j.entries) told run.steps

    pub none-wrong : wrong_step s t ≡ None
    none-wrong =
        let parts = told-parts s board t right in
        let same : (journal_told s t).entries ≡ flat_map (part_entries (peers_of s t.line)) (parts_of s t) = unjoined-is s t.line (lines_of_texts t.texts) in
        ap (moved t.number) (parts-right (peers_of s t.line) (script s t.line.domain) (parts_of s t) (start s t.line) t.texts tt parts.fits (subst (Tell t.texts) parts.lines right.tells) (subst (Due (script s t.line.domain) (start s t.line)) same told-run.due))

    pub none-left : IsWhole s t.line j.entries → unfinished s t ≡ None
    none-left whole =
        let left : left_behind s t ≡ left_by s t.line j.entries = sym (due-left s board t) ∙ ap (left_by s t.line) told-run.with_due in
        let called : (left_behind s t).lines_called ≡ length (script s t.line.domain) = ap (λ (r : RunState). r.lines_called) left ∙ whole in
        let none : lines_left (left_behind s t) (script s t.line.domain) ≡ 0 = omega (arith, called) in
        ap (λ n. cond {A = Option ℕ} (n == 0) None (Some (t.number + length t.texts))) none

pub steps_right : StepsOfRunsAreRight
steps_right s board j t right is run whole =
    let here : IsDomainRun s t.line j.entries = subst (λ d. IsDomainRun s d j.entries) (sym is.line) run in
    let all : IsWhole s t.line j.entries = subst (λ d. IsWhole s d j.entries) (sym is.line) whole in
    record {
      steps = none-wrong s board j t right is here;
      whole = none-left s board j t right is here all;
      journal = same-journal t.line j.line (with_answers (script s t.line.domain) (start s t.line) (journal_told s t).entries) j.entries is.line (told-run s board j t right is here).with_due;
    }
  where
    same-journal : (d e : DomainLine) (es fs : List PlainEntry) → d ≡ e → es ≡ fs → (let k : DomainJournal = record { line = d; entries = es } in k) ≡ record { line = e; entries = fs }
    same-journal d e es fs line entries = cc
