use Rattle.std.proofs.Common.{◌≡◌, ℕ, List, [], ◌∷◌, ◌++◌, map, sym, ap, subst, ◌∙◌}
use Rattle.std.specs.Prelude.{IfOk, Result, Ok, Err}
use Rattle.board_model.specs.declared.totals.ChannelTotals.{ChannelTotals}
use Rattle.board_model.specs.declared.totals.LanePlaces.{LanePlaces}
use Rattle.board_model.specs.declared.totals.Totals.{Totals}
use Rattle.board_model.specs.Places.{places_of as places_of_lane}
use Rattle.board_model.specs.Report.{channel_text, messages_text, places_text, ending}
use Rattle.board_model.specs.Scenario.{lanes}
use Rattle.board_model.specs.SerialRun.{Station, journal_left}
use Rattle.board_model.specs.Totals.{channel_totals, totals}
use Rattle.board_numbers.specs.NumberLines.{numbers_text}
use Rattle.board_numbers.specs.Tallied.{AreTallies, TallySomeRun}
use Rattle.report_text.specs.TextLines.{lines_in}
use Rattle.report_text.specs.TotalPass.{number_texts}
use Rattle.report_totals.specs.JournalTallies.{EndRun}
use Rattle.report_totals.specs.WholeLines.{AreWholeLines}
use Rattle.report_totals.proofs.DueLines.{due-lines}
use Rattle.report_totals.proofs.TalliesTold.{run-tallies, tally-run}
use Rattle.report_totals.proofs.pass.due_numbers.Goals as goal

pub places_of-requires-clause-tallies : goal.places_of-requires-clause-tallies
places_of-requires-clause-tallies c =
    subst (TallySomeRun c.args.scenario.now) (sym c.deref-2.ensures.value) (tally-run c.args.scenario.now c.args.domains.now c.in_ok-counted.counted.tallies.items c.requires.run c.in_ok-counted.ensures.tallies)

pub totals_of-messages-requires-clause-tallies : goal.totals_of-messages-requires-clause-tallies
totals_of-messages-requires-clause-tallies c =
    subst (TallySomeRun c.args.scenario.now) (sym c.deref-3.ensures.value) (tally-run c.args.scenario.now c.args.domains.now c.in_ok-counted.counted.tallies.items c.requires.run c.in_ok-counted.ensures.tallies)

ok-then : {A E : Type 0} (P Q : A → Type 0) → ((x : A) → P x → Q x) → (r : Result A E) → IfOk r P → IfOk r Q
ok-then P Q then (Ok x) h = then x h
ok-then P Q then (Err e) h = tt

pub returns : goal.returns
returns c =
    let s = c.args.scenario.now in
    let ds = c.args.domains.now in
    let cs = c.as_slice.result.now in
    let m = c.totals_of-messages.result in
    let ps = c.as_slice-2.result.now in
    let rs = c.args.rings.now in
    ok-then (λ text. text.items ≡ numbers_text cs m ps ++ (rs ++ ending)) (λ text. (ts : List Station) (ls : List (List ℕ)) → EndRun s ts ds → AreWholeLines rs ls → lines_in text.items ≡ number_texts s (map journal_left ts) ls)
    (λ text is ts ls run whole.
    let js = map journal_left ts in
    let tallies = run-tallies s ts ds c.in_ok-counted.counted.tallies.items run c.in_ok-counted.ensures.tallies in
    let channels : cs ≡ channel_totals s js = c.as_slice.ensures ∙ c.in_ok-channels.ensures ts run.ran run.ended in
    let messages : m ≡ totals s js = c.totals_of-messages.ensures ts run.ran (subst (AreTallies s ts) (sym c.deref-3.ensures.value) tallies) in
    let places : ps ≡ map (places_of_lane s js) (lanes s) = c.as_slice-2.ensures ∙ c.in_ok-places.ensures ts run.ran (subst (AreTallies s ts) (sym c.deref-2.ensures.value) tallies) in
    ap lines_in is
    ∙ due-lines cs m ps rs ls whole
    ∙ ap (λ (xs : List ChannelTotals). map channel_text xs ++ (messages_text m ∷ (map places_text ps ++ (ls ++ ending ∷ [])))) channels
    ∙ ap (λ (x : Totals). map channel_text (channel_totals s js) ++ (messages_text x ∷ (map places_text ps ++ (ls ++ ending ∷ [])))) messages
    ∙ ap (λ (xs : List LanePlaces). map channel_text (channel_totals s js) ++ (messages_text (totals s js) ∷ (map places_text xs ++ (ls ++ ending ∷ [])))) places)
    c.due_text.result c.due_text.ensures
