-- What the run of numbered calls leaves is written as its report and the lines of the calls.
use Rattle.std.proofs.Common.{◌≡◌, ℕ, zero, suc, ◌+◌, ◌≤◌, ◌<◌, List, ◌++◌, Some, slice_get, inl, inr, refl, ap, ap₂, ◌∙◌, arith}
use Rattle.std.specs.List.{flat_map}
use Rattle.std.proofs.lemmas.List.Elements.{recursion_from_All}
use Rattle.std.proofs.lemmas.Option.{slice_get_cases}
use Rattle.outer_io.specs.Puts.{Puts}
use Rattle.outer_io.specs.declared.sink.Sink.{Ghosts}
use Rattle.outer_io.specs.declared.writer.Writer.{Writer}
use Rattle.outer_io.proofs.Writing.{puts_then}
use Rattle.actor_lang.specs.CallsInput.{AreFitCalls, NumberedCalls, calls_told}
use Rattle.actor_lang.specs.InputFaults.{RefusedInput}
use Rattle.board_model.specs.declared.scenario.Scenario.{Scenario}
use Rattle.board_model.specs.Board.{DomainJournal}
use Rattle.board_model.specs.Report.{threads}
use Rattle.board_runner.specs.declared.outcome.Outcome.{Outcome}
use Rattle.board_runner.specs.RingLines.{outcome_report}
use Rattle.call_actor.specs.CallsRun.{AreCalled, IsCallsOutcome, service_in}
use Rattle.call_actor.specs.declared.call_actor.CallActor.{CallActor}
use Rattle.call_actor.proofs.CallsRuns.{calls-run}
use Rattle.call_logs.specs.CallsBoard.{CallBoard, IsCall, IsCallBoard, IsCallsRun, carried_calls, role_of}
use Rattle.call_logs.specs.MessageDeeds.{log_at}
use Rattle.call_logs.proofs.CallsCarried.{carried_in_order}
use Rattle.call_logs.proofs.CallsGot.{got_in_order, never_full}
use Rattle.call_report.specs.CallsText.{cells_text, carried_text, got_line, gots_text}
use Rattle.call_service.specs.Served.{rising}
use Rattle.scenario_cli.specs.declared.form.Form.TheVariants.{Calls}
use Rattle.scenario_cli.specs.ActorLines.{AreOfCalls, actor_lines, calls_report, gots_at, gots_held, history_held, service_at_server, service_held}
use Rattle.scenario_cli.specs.Answers.{good, bad, IsOfSort}
use Rattle.scenario_cli.specs.CallsReport.{AreCalls, AreNoCalls, IsCallsReport, asked_by, calls_lines, gots_of}
use Rattle.scenario_cli.specs.Due.{MayLeaveRings}
use Rattle.scenario_cli.proofs.Inputs.{not_both}
use Rattle.scenario_cli.proofs.LeftLemmas.{sound_of, told-left}
use Rattle.scenario_cli.proofs.RunsChecked.{left-checked}

-- a text tells numbered calls or none, and not both
pub calls-not-refused : (text : List ℕ) (calls : NumberedCalls) → AreCalls text calls → IsOfSort Calls bad text → ⊥
calls-not-refused text calls are of = not_both (calls_told text) calls of.0 are of.1

pub refused-no-calls : (text : List ℕ) (l : RefusedInput) → AreNoCalls text l → IsOfSort Calls good text → ⊥
refused-no-calls text l are of = not_both (calls_told text) of.0 l of.1 are

-- calls that were read may be run
pub may-be-asked : (calls : NumberedCalls) → AreFitCalls calls → IsCallBoard (asked_by calls)
may-be-asked calls fit = record {
  few_clients = omega (arith, fit.few_clients);
  calls = recursion_from_All (IsCall calls.clients) calls.calls fit.calls;
  few_calls = omega (arith, fit.few);
}

-- ---- what the actors hold is what the journals tell

-- texts of numbers that rise are the same where they are for each of these numbers
same_texts : (a b : ℕ → List ℕ) (from n : ℕ) → ((d : ℕ) → d < from + n → a d ≡ b d) → flat_map a (rising from n) ≡ flat_map b (rising from n)
same_texts a b from zero same = refl
same_texts a b from (suc n) same = ap₂ (λ x y. x ++ y) (same from (omega arith)) (same_texts a b (from + 1) n (λ d less. same d (omega (arith, less))))

module _ (asked : CallBoard) (s : Scenario) (js : List DomainJournal) (actors : List CallActor) (called : AreCalled asked s js actors) where
  -- an actor for each domain
  actor_at : (d : ℕ) → d ≤ asked.clients → (a : CallActor) × (slice_get actors d ≡ Some a)
  actor_at d within = elim (slice_get_cases actors d).1 [
    | inl there ↦ (there.0, there.2)
    | inr past ↦ absurd (omega (arith, past.0, within, called.counted))
  ]

  service_is : service_at_server actors ≡ service_in (role_of asked 0) (log_at s js 0)
  service_is = let first = actor_at 0 (omega arith) in ap service_held first.1 ∙ (called.holds 0 first.0 first.1).service

  pub are-of-calls : AreOfCalls asked.clients actors
  are-of-calls = record { counted = called.counted; server = rw service_is refl }

  got_same : (d : ℕ) → d ≤ asked.clients → gots_at actors d ≡ gots_of asked s js d
  got_same d within = let at = actor_at d within in ap gots_held at.1 ∙ (called.holds d at.0 at.1).gots

  pub lines-same : IsCallBoard asked → IsCallsRun asked s js → actor_lines asked.clients actors ≡ calls_lines asked s js
  lines-same board run =
      let history : history_held (service_at_server actors) ≡ carried_calls s js = ap history_held service_is ∙ never_full asked s js board run in
      let gots : gots_text asked.clients (gots_at actors) ≡ gots_text asked.clients (gots_of asked s js) =
      same_texts (λ d. flat_map (got_line d) (gots_at actors d)) (λ d. flat_map (got_line d) (gots_of asked s js d)) 1 asked.clients (λ d less. ap (flat_map (got_line d)) (got_same d (omega (arith, less)))) in
      ap₂ (λ h text. carried_text asked.clients h ++ (text ++ cells_text h)) history gots

-- ---- what is written of the outcome is the report of the calls

-- it is put in two parts
pub puts-report : {K : Type 0} (sink : Ghosts K) (a b c : Writer K) (clients : ℕ) (s : Scenario) (o : Outcome) (actors : List CallActor) → Puts sink a b (outcome_report threads s o) → Puts sink b c (actor_lines clients actors)
    → Puts sink a c (calls_report clients s o actors)
unfolding calls_report
puts-report sink a b c clients s o actors p q = puts_then sink a b c (outcome_report threads s o) (actor_lines clients actors) p q

pub calls-reported : (text : List ℕ) (calls : NumberedCalls) (s : Scenario) (o : Outcome) (actors : List CallActor) → AreCalls text calls → IsCallBoard (asked_by calls) → IsCallsOutcome (asked_by calls) calls.size s o actors
    → IsCallsReport text (calls_report calls.clients s o actors)
unfolding calls_report
calls-reported text calls s o actors read board is =
    let asked = asked_by calls in
    let js = is.run.journals in
    let run = calls-run asked calls.size s o actors is in
    let sound = sound_of s js is.lawful is.run.run is.run.whole in
    let left : MayLeaveRings threads s js o.rings = (is.run.rings, is.run.in_time) in
    record {
      calls = calls;
      read = read;
      scenario = s;
      journals = js;
      are = record {
        board = is.board;
        lines = is.lines;
        lawful = is.lawful;
        sound = sound;
        run = run;
        ended = is.called.ended;
        in_order = carried_in_order asked s js board run;
        got = got_in_order asked s js board run;
      };
      rings = o.rings;
      rings_left = left;
      checked = left-checked threads s js o.rings is.lawful sound left;
      written = ap₂ (λ x y. x ++ y) (told-left threads s o js is.run.tells) (lines-same asked s js actors is.called board run);
    }
