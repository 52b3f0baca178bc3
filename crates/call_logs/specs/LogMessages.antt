-- The messages in a log: those that its lines sent, and those that they received.
-- Source: docs/PROFILE.md, "Logs".
use Rattle.std.specs.Prelude.{ℕ, List, [], ◌∷◌, map}
use Rattle.std.specs.List.{flat_map}
use Rattle.mc_base.specs.declared.name.EndName.{EndName}
use Rattle.board_model.specs.declared.scenario.Call.{Call}
use Rattle.board_model.specs.declared.scenario.Call.TheVariants.{MsgSend, MsgRecv}
use Rattle.board_model.specs.Journal.{PlainAnswer, agrees, gives}
use Rattle.board_model.specs.Logs.{LoggedCall}

-- a message that was sent: to which endpoint, and its bytes
pub record MessageSent : Type 0 where
  pub to : EndName
  pub content : List ℕ

abbrev pub sent_message : EndName → List ℕ → MessageSent
sent_message to content = record { to = to; content = content }

-- a message that was received: how many bytes were asked for at most, how many it has, and those that were returned
pub record MessageReceived : Type 0 where
  pub max : ℕ
  pub size : ℕ
  pub bytes : List ℕ

abbrev pub received_message : ℕ → ℕ → List ℕ → MessageReceived
received_message max size bytes = record { max = max; size = size; bytes = bytes }

-- by sends that were answered `ok`
abbrev pub sent_by : Call → PlainAnswer → List MessageSent
sent_by (MsgSend port to priority bytes) agrees = sent_message to bytes ∷ []
sent_by call answer = []

abbrev pub messages_sent : List LoggedCall → List MessageSent
messages_sent log = flat_map (λ l. sent_by l.line.call l.answer) log

-- by receives that were answered `ok`
abbrev pub received_by : Call → PlainAnswer → List MessageReceived
received_by (MsgRecv port max) (gives size bytes) = received_message max size bytes ∷ []
received_by call answer = []

abbrev pub messages_received : List LoggedCall → List MessageReceived
messages_received log = flat_map (λ l. received_by l.line.call l.answer) log

-- the bytes that were returned
abbrev pub contents_received : List LoggedCall → List (List ℕ)
contents_received log = map (λ m. m.bytes) (messages_received log)
