-- What the form `relay` writes: the report of a run of the relay that the text tells, in which each domain followed its role.
-- Source: docs/PROFILE.md, "Relays", docs/FORMATS.md, "Text of a relay", and docs/PROMISES.md, "Relays".
use Rattle.std.specs.Prelude.{◌≡◌, ℕ, ◌+◌, List, Ok, Err}
use Rattle.std.specs.List.{flat_map}
use Rattle.actor_lang.specs.InputFaults.{RefusedInput}
use Rattle.actor_lang.specs.RelayInput.{Relay, relay_told}
use Rattle.board_model.specs.declared.scenario.Scenario.{Scenario}
use Rattle.board_model.specs.Board.{DomainJournal}
use Rattle.board_model.specs.Language.{IsLawfulBoard}
use Rattle.board_model.specs.Report.{threads}
use Rattle.board_model.specs.Scenario.{script}
use Rattle.board_runner.specs.RingLines.{report_left}
use Rattle.hop_relay.specs.RelayBoard.{IsRelayBoard, numbers_below}
use Rattle.hop_relay.specs.RelayLaw.{IsRelayRun, KeepsOrder}
use Rattle.hop_relay.specs.RelayRun.{IsRelayed}
use Rattle.hop_relay.specs.Steps.{packet_limit}
use Rattle.split_ring.specs.Finished.{FinishedRing}
use Rattle.scenario_cli.specs.Due.{IsSound, MayLeaveRings}
use Rattle.scenario_cli.specs.VerdictText.{HasNoWrongLine}

-- the text tells this relay
abbrev pub IsRelay : List ℕ → Relay → Type 0
IsRelay text relay = relay_told text ≡ Ok relay

-- the text tells none, and is refused at this line with this reason
abbrev pub IsNoRelay : List ℕ → RefusedInput → Type 0
IsNoRelay text r = relay_told text ≡ Err r

-- in every board run of such a relay, of whole scripts or not, in which each log fits the role of its domain, the far end took the first of what
-- the source put, which are the first of these packets, and the others are on the way
abbrev pub RunsKeepOrder : Relay → Type 0
RunsKeepOrder relay = (s : Scenario) (js : List DomainJournal) → IsRelayRun relay.packets relay.hops relay.size packet_limit s js → KeepsOrder relay.packets relay.hops s js

-- the output is the report of a run on threads. It has no wrong line
pub record IsRelayReport (text output : List ℕ) : Type 0 where
  pub relay : Relay
  pub read : IsRelay text relay
  -- the scenario: the board of the relay, and the lines that its domains gave, by domain
  pub scenario : Scenario
  pub board : IsRelayBoard relay.hops relay.size scenario
  pub lines : scenario.calls ≡ flat_map (script scenario) (numbers_below (relay.hops + 1))
  pub lawful : IsLawfulBoard scenario
  -- a whole run of it, of which the headline holds, and in which each domain followed its role to its end
  pub journals : List DomainJournal
  pub sound : IsSound scenario journals
  pub relayed : IsRelayed relay.packets relay.hops scenario journals
  -- the law of relays, of this run and of every other
  pub order : KeepsOrder relay.packets relay.hops scenario journals
  pub law : RunsKeepOrder relay
  -- the rings of the run
  pub rings : List FinishedRing
  pub rings_left : MayLeaveRings threads scenario journals rings
  pub written : output ≡ report_left threads scenario journals rings
  pub checked : HasNoWrongLine output
