use Rattle.std.proofs.Common.{ℕ, List, ◌++◌, map, sym, ap, subst, ◌∙◌}
use Rattle.std.specs.List.{AllByRecursion, flat_map}
use Rattle.std.proofs.lemmas.Result.{IfErr-at_err, IfOk-at_ok}
use Rattle.board_model.specs.declared.scenario.LinkLine.{LinkLine}
use Rattle.ring_numbers.specs.BoardRings.{image_of_queue}
use Rattle.ring_numbers.specs.RingTexts.{ring_text}
use Rattle.report_text.specs.LinkPass.{journal_told}
use Rattle.report_text.specs.TextLines.{lines_in}
use Rattle.report_text.specs.TextRead.{told_of}
use Rattle.report_totals.specs.declared.rings.lanes.DomainLanes.{DomainLanes}
use Rattle.report_totals.specs.ReadJournals.{IsSized, image_told}
use Rattle.report_totals.specs.SenderLanes.{AreWalked}
use Rattle.report_totals.proofs.LaneSizes.{links-sized}
use Rattle.report_totals.proofs.PassedRuns.{all-find, board, few-told, good, lawful, rings-same, texts}
use Rattle.report_totals.proofs.RingLines.{rings-first}
use Rattle.report_totals.proofs.rings.pass.ring_lines.Goals as goal

pub walk_journals-requires-clause-lawful : goal.walk_journals-requires-clause-lawful
walk_journals-requires-clause-lawful c = lawful (told_of c.args.told.now) c.requires.passed

pub walk_journals-requires-clause-domains : goal.walk_journals-requires-clause-domains
walk_journals-requires-clause-domains c =
    let t = told_of c.args.told.now in
    let passed = c.requires.passed in
    let js = texts t passed in
    few-told t.scenario (board t passed) js (good t passed) js c.args.journals.now (good t passed) c.requires.journals.told

pub returns-in-Err-clause-wrong : goal.returns-in-Err-clause-wrong
returns-in-Err-clause-wrong c =
    let t = told_of c.args.told.now in
    let passed = c.requires.passed in
    let js = texts t passed in
    IfErr-at_err _ c.in-Err.is c.in_ok-lanes.ensures.wrong js js c.requires.journals c.requires.journals.told (all-find t.scenario (board t passed) js (good t passed) js (good t passed))

pub text_of_rings-requires : goal.text_of_rings-requires
text_of_rings-requires c =
    let t = told_of c.args.told.now in
    let passed = c.requires.passed in
    let js = texts t passed in
    record {
      scenario = t.scenario;
      texts = js;
      reads = record {
        journals = c.requires.journals;
        walked = subst (λ (ws : List DomainLanes). AreWalked t.scenario js js ws) (sym c.deref.ensures.value) (IfOk-at_ok _ c.in-Ok.is c.in_ok-lanes.ensures.walked js js c.requires.journals c.requires.journals.told);
      };
      sized = subst (λ (ls : List LinkLine). AllByRecursion (IsSized t.scenario) ls) (sym c.as_slice.ensures) (links-sized t.scenario (board t passed));
    }

pub returns-clause-none : goal.returns-clause-none
returns-clause-none c =
    let t = told_of c.args.told.now in
    let passed = c.requires.passed in
    let js = texts t passed in
    IfOk-at_ok _ c.in-Ok.is c.in_ok-lanes.ensures.none js js c.requires.journals c.requires.journals.told (all-find t.scenario (board t passed) js (good t passed) js (good t passed))

pub returns-clause-text : goal.returns-clause-text
returns-clause-text c =
    let t = told_of c.args.told.now in
    let s = t.scenario in
    let passed = c.requires.passed in
    let js = texts t passed in
    let walked = subst (λ (ws : List DomainLanes). AreWalked s js js ws) (sym c.deref.ensures.value) (IfOk-at_ok _ c.in-Ok.is c.in_ok-lanes.ensures.walked js js c.requires.journals c.requires.journals.told) in
    c.in_ok-text_of_rings.ensures s js (record { journals = c.requires.journals; walked = walked })
    ∙ ap (λ (ls : List LinkLine). flat_map (λ l. ring_text l 0 (image_told s js l 0) ++ ring_text l 1 (image_told s js l 1)) ls) c.as_slice.ensures
    ∙ rings-same s (board t passed) js (good t passed) s.links (links-sized s (board t passed))

pub returns-clause-lines : goal.returns-clause-lines
returns-clause-lines c =
    let t = told_of c.args.told.now in
    let s = t.scenario in
    let js = map (journal_told s) (texts t c.requires.passed) in
    λ behind. ap (λ (text : List ℕ). lines_in (text ++ behind)) (returns-clause-text c) ∙ rings-first (λ l queue. image_of_queue s js l queue) s.links behind
