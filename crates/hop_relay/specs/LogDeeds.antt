-- The packets in a domain's log are those that the deeds of its run send and receive.
-- Source: docs/PROFILE.md, "Relays".
use Rattle.std.specs.Prelude.{◌≡◌, ℕ, List, [], ◌∷◌, ◌==◌, if◌then◌else◌}
use Rattle.board_model.specs.declared.scenario.Scenario.{Scenario}
use Rattle.board_model.specs.DomainCall.{packet_from, lend_at}
use Rattle.board_model.specs.Journal.{agrees, gives}
use Rattle.board_model.specs.State.{DomainState}
use Rattle.board_model.specs.Deeds.{Deed, calls, along}
use Rattle.board_model.specs.Run.{IsDomainRun}
use Rattle.board_model.specs.Board.{DomainJournal}
use Rattle.board_model.specs.JournalDeeds.{deeds_of, opened}
use Rattle.board_model.specs.Logs.{log_of}
use Rattle.hop_relay.specs.Hop.{sent, received}

-- the packets that calls at port 1 sent, and that calls at port 2 received
abbrev pub sent_in : DomainState → Deed → List (List ℕ)
sent_in s (calls node (packet_from port bytes) agrees) = if port == 1 then bytes ∷ [] else []
sent_in s other = []

abbrev pub received_in : DomainState → Deed → List (List ℕ)
received_in s (calls node (lend_at port) (gives size bytes)) = if port == 2 then bytes ∷ [] else []
received_in s other = []

pub record HasPackets (s : Scenario) (j : DomainJournal) : Type 0 where
  pub sends : along sent_in (opened s j) (deeds_of s j) ≡ sent (log_of s j)
  pub receives : along received_in (opened s j) (deeds_of s j) ≡ received (log_of s j)

abbrev pub LogsHavePackets : Type 0
LogsHavePackets = (s : Scenario) (j : DomainJournal) → IsDomainRun s j.line j.entries → HasPackets s j
