use Rattle.std.proofs.Common.{◌≡◌, ℕ, List, [], None, refl, sym, ap, subst, ◌∙◌}
use Rattle.std.specs.Prelude.{IsOk}
use Rattle.std.specs.List.{AllByRecursion}
use Rattle.board_model.specs.Grammar.{IsLawfulDomain}
use Rattle.board_model.specs.Scenario.{rising, rising_from}
use Rattle.board_model.specs.State.{DomainState}
use Rattle.board_model.proofs.LawfulBoards.{lawful_is_linked}
use Rattle.report_text.specs.declared.link_pass.JournalLines.{JournalLines}
use Rattle.report_text.specs.LaneLeft.{AreTold}
use Rattle.report_text.specs.TextRead.{told_of}
use Rattle.report_text.specs.TextPass.{journals_from}
use Rattle.report_text.proofs.ReportsTold.{text-lawful, text-front}
use Rattle.report_text.proofs.RunsTold.{rising-lawful}
use Rattle.report_totals.specs.EndedJournals.{AreLeftBehind}
use Rattle.report_check.specs.declared.walks.Walks.{Walks}
use Rattle.report_check.specs.Walks.{WalksOn}
use Rattle.report_totals.specs.SenderLanes.{AreGiven}
use Rattle.report_check.proofs.passes.check_told.Goals as goal

pub walk_on-requires-clause-lawful : goal.walk_on-requires-clause-lawful
walk_on-requires-clause-lawful c = text-lawful c.args._report.now (told_of c.args.told.now) c.requires.short c.requires.told

pub walk_on-requires-clause-domains : goal.walk_on-requires-clause-domains
walk_on-requires-clause-domains c =
    let lawful = text-lawful c.args._report.now (told_of c.args.told.now) c.requires.short c.requires.told in
    let are : c.deref.result.now ≡ rising c.args.told.now.scenario = c.deref.ensures.value ∙ c.in_ok-lines.ensures ∙ ap rising_from c.as_slice.ensures in
    subst (AllByRecursion IsLawfulDomain) (sym are) (rising-lawful c.args.told.now.scenario (lawful_is_linked c.args.told.now.scenario lawful))

pub walk_on-requires-clause-text : goal.walk_on-requires-clause-text
walk_on-requires-clause-text c =
    let are : c.deref.result.now ≡ rising c.args.told.now.scenario = c.deref.ensures.value ∙ c.in_ok-lines.ensures ∙ ap rising_from c.as_slice.ensures in
    let front = text-front c.args._report.now (told_of c.args.told.now) c.requires.told in
    subst (λ ds. IsOk (journals_from c.args.told.now.scenario ds (told_of c.args.told.now).behind)) (sym are) (subst IsOk (sym front.journals) refl)

pub check_walked-requires-clause-walked : goal.check_walked-requires-clause-walked
check_walked-requires-clause-walked c =
    let are : c.deref.result.now ≡ rising c.args.told.now.scenario = c.deref.ensures.value ∙ c.in_ok-lines.ensures ∙ ap rising_from c.as_slice.ensures in
    let first : Walks = record { journals = c.new.result; states = c.new-2.result; given = c.new-3.result; line = c.args.told.now.line; behind = c.args.told.now.behind } in
    let walks : WalksOn c.args.told.now.scenario c.deref.result.now first c.walk_on.new.self None = subst (WalksOn c.args.told.now.scenario c.deref.result.now first c.walk_on.new.self) c.in-None.is c.in_ok-verdict.ensures.walks in
    let all : WalksOn c.args.told.now.scenario (rising c.args.told.now.scenario) first c.walk_on.new.self None = subst (λ ds. WalksOn c.args.told.now.scenario ds first c.walk_on.new.self None) are walks in
    record {
      right = all.0;
      left = all.1;
      walked = all.2 [] (record {
        told = subst (λ (cs : List JournalLines). AreTold [] cs) (sym c.new.ensures.items) tt;
        states = subst (λ (xs : List DomainState). AreLeftBehind c.args.told.now.scenario [] xs) (sym c.new-2.ensures.items) tt;
        given = subst (λ (gs : List (List (List ℕ))). AreGiven c.args.told.now.scenario [] gs) (sym c.new-3.ensures.items) tt;
      });
    }
