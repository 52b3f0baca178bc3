-- Hops: a domain between sends what it received, in the same order, and holds one packet at most.
-- Source: docs/PROFILE.md, "Relays".
use Rattle.std.specs.Prelude.{◌≡◌, ℕ, ◌≤◌, List, [], ◌∷◌, ◌++◌, ◌==◌, length, drop, if◌then◌else◌}
use Rattle.std.specs.List.{flat_map}
use Rattle.board_model.specs.declared.scenario.Call.{Call}
use Rattle.board_model.specs.declared.scenario.Call.TheVariants.{PktRecv, PktSend}
use Rattle.board_model.specs.Journal.{PlainAnswer, agrees, gives}
use Rattle.board_model.specs.Logs.{LoggedCall}
use Rattle.hop_relay.specs.declared.role.Role.TheVariants.{Middle}
use Rattle.hop_relay.specs.Roles.{FitsRole}

-- the packets that a log received at port 2: those of the receives that were answered `ok`
abbrev pub received_by : Call → PlainAnswer → List (List ℕ)
received_by (PktRecv port) (gives size bytes) = if port == 2 then bytes ∷ [] else []
received_by call answer = []

abbrev pub received : List LoggedCall → List (List ℕ)
received log = flat_map (λ l. received_by l.line.call l.answer) log

-- the packets that it sent from port 1
abbrev pub sent_by : Call → PlainAnswer → List (List ℕ)
sent_by (PktSend port bytes) agrees = if port == 1 then bytes ∷ [] else []
sent_by call answer = []

abbrev pub sent : List LoggedCall → List (List ℕ)
sent log = flat_map (λ l. sent_by l.line.call l.answer) log

-- what was received and not sent
abbrev pub held : List LoggedCall → List (List ℕ)
held log = drop (length (sent log)) (received log)

-- what was sent is what was received, but for the last packet at most
pub record SendsOn (log : List LoggedCall) : Type 0 where
  pub kept : received log ≡ sent log ++ held log
  pub few : length (held log) ≤ 1

-- at each place of the log
abbrev pub IsHop : List LoggedCall → Type 0
IsHop log = (front back : List LoggedCall) → log ≡ front ++ back → SendsOn front

-- the log of a domain between is a hop
abbrev pub MiddleLogsAreHops : Type 0
MiddleLogsAreHops = (d most : ℕ) (log : List LoggedCall) → FitsRole (Middle d most) log → IsHop log
