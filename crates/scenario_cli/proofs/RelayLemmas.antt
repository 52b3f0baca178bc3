-- What the run of a relay leaves is written as its report.
use Rattle.std.proofs.Common.{ℕ, ◌≤◌, List, All, length, sym, subst}
use Rattle.std.specs.Prelude.{Vec}
use Rattle.std.specs.Global.{Global}
use Rattle.std.proofs.lemmas.List.Elements.{All-from_recursion, recursion_from_All}
use Rattle.actor_lang.specs.InputFaults.{RefusedInput}
use Rattle.actor_lang.specs.RelayInput.{Relay as RelayRead, relay_told}
use Rattle.board_model.specs.declared.scenario.Scenario.{Scenario}
use Rattle.board_model.specs.Report.{threads}
use Rattle.board_model.proofs.ListsApart.{all-unmap}
use Rattle.board_runner.specs.declared.outcome.Outcome.{Outcome}
use Rattle.board_runner.specs.RingLines.{outcome_report}
use Rattle.hop_relay.specs.NextLines.{contents}
use Rattle.hop_relay.specs.RelayRun.{IsRelayOutcome}
use Rattle.hop_relay.specs.Steps.{packet_limit}
use Rattle.hop_relay.proofs.RelayOrder.{keeps_order}
use Rattle.hop_relay.proofs.RelayRuns.{relay-run}
use Rattle.mc_base.specs.Limits.{item_size}
use Rattle.scenario_cli.specs.declared.form.Form.TheVariants.{Relay}
use Rattle.scenario_cli.specs.Answers.{good, bad, IsOfSort}
use Rattle.scenario_cli.specs.Due.{MayLeaveRings}
use Rattle.scenario_cli.specs.RelayReport.{IsRelay, IsNoRelay, IsRelayReport, RunsKeepOrder}
use Rattle.scenario_cli.specs.VerdictText.{HasNoWrongLine}
use Rattle.scenario_cli.proofs.Inputs.{not_both}
use Rattle.scenario_cli.proofs.LeftLemmas.{sound_of, told-left}
use Rattle.scenario_cli.proofs.RunsChecked.{left-checked}

-- a text tells a relay or none, and not both
pub relay-not-refused : (text : List ℕ) (relay : RelayRead) → IsRelay text relay → IsOfSort Relay bad text → ⊥
relay-not-refused text relay is of = not_both (relay_told text) relay of.0 is of.1

pub refused-no-relay : (text : List ℕ) (l : RefusedInput) → IsNoRelay text l → IsOfSort Relay good text → ⊥
refused-no-relay text l is of = not_both (relay_told text) of.0 l of.1 is

-- each packet that was read has few enough bytes to be sent
pub packets-fit : (packets : List (Vec ℕ Global)) → All (λ bytes. length bytes ≤ item_size) (contents packets) → All (λ p. length p.items ≤ item_size) packets
packets-fit packets fit =
    All-from_recursion (λ p. length p.items ≤ item_size) packets (all-unmap (λ bytes. length bytes ≤ item_size) (λ p. p.items) packets (recursion_from_All (λ bytes. length bytes ≤ item_size) (contents packets) fit))

-- the law of relays
runs-keep-order : (relay : RelayRead) → 1 ≤ relay.hops → RunsKeepOrder relay
runs-keep-order relay some s js run = keeps_order relay.packets relay.hops relay.size packet_limit s js run some

-- what is written of the outcome is the report of the relay
pub relay-reported : (text : List ℕ) (relay : RelayRead) (s : Scenario) (o : Outcome) → IsRelay text relay → 1 ≤ relay.hops → IsRelayOutcome relay.packets relay.hops relay.size s o → IsRelayReport text (outcome_report threads s o)
relay-reported text relay s o read some is =
    let js = is.run.journals in
    let sound = sound_of s js is.lawful is.run.run is.run.whole in
    let left : MayLeaveRings threads s js o.rings = (is.run.rings, is.run.in_time) in
    let written = told-left threads s o js is.run.tells in
    let law = runs-keep-order relay some in
    record {
      relay = relay;
      read = read;
      scenario = s;
      board = is.board;
      lines = is.lines;
      lawful = is.lawful;
      journals = js;
      sound = sound;
      relayed = is.relayed;
      order = law s js (relay-run relay.packets relay.hops relay.size s o is);
      law = law;
      rings = o.rings;
      rings_left = left;
      written = written;
      checked = subst HasNoWrongLine (sym written) (left-checked threads s js o.rings is.lawful sound left);
    }
