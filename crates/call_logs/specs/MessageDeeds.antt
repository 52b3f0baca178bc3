-- The messages in a domain's log are those that the deeds of its run send and receive, and each that was received was sent.
-- Source: docs/PROFILE.md, "Logs" and "Messages".
use Rattle.std.specs.Prelude.{◌≡◌, ℕ, ◌==◌, List, [], ◌∷◌, length, take, find, Contains, Option, None, Some}
use Rattle.std.specs.List.{AllByRecursion}
use Rattle.board_model.specs.declared.scenario.Scenario.{Scenario}
use Rattle.board_model.specs.LinkedBoard.{IsLinkedBoard}
use Rattle.board_model.specs.DomainCall.{send_from, receive_at}
use Rattle.board_model.specs.Journal.{agrees, gives}
use Rattle.board_model.specs.State.{DomainState}
use Rattle.board_model.specs.Deeds.{Deed, calls, along}
use Rattle.board_model.specs.Run.{IsDomainRun}
use Rattle.board_model.specs.Board.{DomainJournal, IsBoardRun}
use Rattle.board_model.specs.JournalDeeds.{deeds_of, opened}
use Rattle.board_model.specs.Logs.{LoggedCall, log_of}
use Rattle.call_logs.specs.LogMessages.{MessageSent, MessageReceived, sent_message, received_message, messages_sent, messages_received}

-- ---- of one domain

abbrev pub sent_in : DomainState → Deed → List MessageSent
sent_in s (calls node (send_from port to priority bytes) agrees) = sent_message to bytes ∷ []
sent_in s other = []

abbrev pub received_in : DomainState → Deed → List MessageReceived
received_in s (calls node (receive_at port max) (gives size bytes)) = received_message max size bytes ∷ []
received_in s other = []

pub record HasMessages (s : Scenario) (j : DomainJournal) : Type 0 where
  pub sends : along sent_in (opened s j) (deeds_of s j) ≡ messages_sent (log_of s j)
  pub receives : along received_in (opened s j) (deeds_of s j) ≡ messages_received (log_of s j)

abbrev pub LogsHaveMessages : Type 0
LogsHaveMessages = (s : Scenario) (j : DomainJournal) → IsDomainRun s j.line j.entries → HasMessages s j

-- ---- of a board

-- the log of the domain of this number, empty where there is none
abbrev pub log_in : Scenario → Option DomainJournal → List LoggedCall
log_in s None = []
log_in s (Some j) = log_of s j

abbrev pub log_at : Scenario → List DomainJournal → ℕ → List LoggedCall
log_at s js d = log_in s (find (λ j. j.line.domain == d) js)

-- a message that this domain received, and the one that some domain sent to it
pub record WasSent (s : Scenario) (js : List DomainJournal) (receiver : ℕ) (m : MessageReceived) : Type 0 where
  pub sender : ℕ
  pub sent : MessageSent
  pub is_sent : Contains (messages_sent (log_at s js sender)) sent
  pub reaches : sent.to.domain ≡ receiver
  pub whole : m.size ≡ length sent.content
  pub first : m.bytes ≡ take m.max sent.content

-- on a board of linked domains, each message that a domain's log received is one that some domain's log sent to it
abbrev pub ReceivedWasSent : Type 0
ReceivedWasSent = (s : Scenario) (js : List DomainJournal) → IsLinkedBoard s → IsBoardRun s js → (d : ℕ) → AllByRecursion (WasSent s js d) (messages_received (log_at s js d))
