-- The run of a relay by its actors: what it leaves.
-- Source: docs/PROFILE.md, "Relays".
use Rattle.std.specs.Prelude.{◌≡◌, ℕ, ◌+◌, ◌<◌, List}
use Rattle.std.specs.List.{AllByRecursion, flat_map}
use Rattle.board_model.specs.declared.scenario.Scenario.{Scenario}
use Rattle.board_model.specs.Board.{DomainJournal}
use Rattle.board_model.specs.Language.{IsLawfulBoard}
use Rattle.board_model.specs.Logs.{log_of}
use Rattle.board_model.specs.Scenario.{script}
use Rattle.board_runner.specs.declared.outcome.Outcome.{Outcome}
use Rattle.board_runner.specs.ThreadRun.{IsThreadRun}
use Rattle.hop_relay.specs.Hop.{IsHop}
use Rattle.hop_relay.specs.RelayBoard.{IsRelayBoard, LogsFitRoles, numbers_below, role_of}
use Rattle.hop_relay.specs.RelayLaw.{IsRelayRun}
use Rattle.hop_relay.specs.Roles.{HasEnded}
use Rattle.hop_relay.specs.Steps.{packet_limit}

-- no line is due after the log of any domain
abbrev pub LogsHaveEnded : Scenario → List DomainJournal → List (List ℕ) → (hops most : ℕ) → Type 0
LogsHaveEnded s js packets hops most = AllByRecursion (λ j. HasEnded (role_of packets hops most j.line.domain) (log_of s j)) js

-- the log of each domain between the first and the last is a hop
abbrev pub LogsBetweenAreHops : Scenario → List DomainJournal → (hops : ℕ) → Type 0
LogsBetweenAreHops s js hops = AllByRecursion (λ j. 0 < j.line.domain → j.line.domain < hops → IsHop (log_of s j)) js

-- each domain followed its role to its end
pub record IsRelayed (packets : List (List ℕ)) (hops : ℕ) (s : Scenario) (js : List DomainJournal) : Type 0 where
  pub fit : LogsFitRoles s js packets hops packet_limit
  pub ended : LogsHaveEnded s js packets hops packet_limit
  pub between : LogsBetweenAreHops s js hops

-- the scenario is the relay's board with the scripts of its domains in rising number. The outcome tells a whole run of it on threads, in
-- which each domain followed its role
pub record IsRelayOutcome (packets : List (List ℕ)) (hops size : ℕ) (s : Scenario) (o : Outcome) : Type 0 where
  pub board : IsRelayBoard hops size s
  pub lines : s.calls ≡ flat_map (script s) (numbers_below (hops + 1))
  pub lawful : IsLawfulBoard s
  pub run : IsThreadRun s o
  pub relayed : IsRelayed packets hops s run.journals

-- such a run is a run of a relay
abbrev pub OutcomesAreRelayRuns : Type 0
OutcomesAreRelayRuns = (packets : List (List ℕ)) (hops size : ℕ) (s : Scenario) (o : Outcome) → (h : IsRelayOutcome packets hops size s o) → IsRelayRun packets hops size packet_limit s h.run.journals
