-- The messages of a board: those that were accepted, those that are queued, and those in the ring, that is, on their way. What
-- receives took is defined in `Takings`, and what was dropped in `Drops`.
-- Source: docs/PROFILE.md, "Messages".
use Rattle.std.specs.Prelude.{ℕ, ◌+◌, ◌-◌, ◌==◌, Bool, true, ◌&&◌, if◌then◌else◌, List, [], ◌∷◌, length, drop, map, filter, is_none, unwrap_or, None}
use Rattle.std.specs.List.{flat_map}
use Rattle.mc_base.specs.Fault.{fault}
use Rattle.mc_base.specs.Frame.{payload_of}
use Rattle.mc_base.specs.LetterFaults.{fields_in, total_in, offset_in}
use Rattle.mc_base.specs.Letter.{msg, Fields}
use Rattle.mc_base.specs.Reading.{Reading, says}
use Rattle.board_model.specs.declared.scenario.Scenario.{Scenario}
use Rattle.board_model.specs.Scenario.{Lane, lanes}
use Rattle.board_model.specs.Journal.{agrees}
use Rattle.board_model.specs.DomainCall.{send_from}
use Rattle.board_model.specs.State.{Endpoint, Item, DomainState, live_at}
use Rattle.board_model.specs.Answer.{local, address_of}
use Rattle.board_model.specs.Dealing.{is_message}
use Rattle.board_model.specs.Parts.{readings}
use Rattle.board_model.specs.Traffic.{put_to, taken_from}
use Rattle.board_model.specs.Board.{DomainJournal, journal_of}
use Rattle.board_model.specs.CallChanges.{at_live}
use Rattle.board_model.specs.Deeds.{Deed, calls, along}
use Rattle.board_model.specs.JournalDeeds.{deeds_of, opened, left_in}

-- a message: from which domain and address, to which domain and address, its priority and its bytes
pub record Message : Type 0 where
  pub sender : ℕ
  pub source : ℕ
  pub receiver : ℕ
  pub destination : ℕ
  pub priority : ℕ
  pub content : List ℕ

-- the message of an item at an address
abbrev pub message_of : ℕ → ℕ → Item → Message
message_of receiver destination i = record { sender = i.peer; source = i.source; receiver = receiver; destination = destination; priority = i.priority; content = i.content }

-- the message that a frame on a lane carries, if it carries one
abbrev pub said_by : ℕ → ℕ → Reading → List Message
said_by sender receiver (says source destination (msg priority content)) = record { sender = sender; source = source; receiver = receiver; destination = destination; priority = priority; content = content } ∷ []
said_by sender receiver other = []

abbrev pub messages_in : ℕ → ℕ → List Reading → List Message
messages_in sender receiver rs = flat_map (said_by sender receiver) rs

-- whether fields without a fault are all of an item, or its last part
abbrev pub ends_item : Fields → Bool
ends_item f = if f.version == 2 then offset_in f + (length f.content - 4) == total_in f else true

-- whether the bytes of a frame carry one, or the last part of one
abbrev pub carries_message : List ℕ → Bool
carries_message frame = is_none (fault frame) && (is_message frame && ends_item (fields_in (payload_of frame)))

-- ---- accepted: those of sends that answer ok

abbrev pub accepted_by : ℕ → DomainState → Deed → List Message
accepted_by d s (calls node (send_from port to priority bytes) agrees) = at_live (live_at s (local node port)) (λ e.
    record { sender = d; source = e.address; receiver = to.domain; destination = unwrap_or (address_of s to) 0; priority = priority; content = bytes } ∷ [])
accepted_by d s other = []

abbrev pub accepted_in : Scenario → DomainJournal → List Message
accepted_in s j = along (accepted_by j.line.domain) (opened s j) (deeds_of s j)

abbrev pub accepted : Scenario → List DomainJournal → List Message
accepted s js = flat_map (accepted_in s) js

-- ---- queued, and in the ring

-- an item that came on no channel is a message
abbrev pub is_message_item : Item → Bool
is_message_item i = is_none i.channel

abbrev pub queued_at : ℕ → Endpoint → List Message
queued_at d e = map (message_of d e.address) (filter is_message_item e.queue)

abbrev pub queued_in : Scenario → DomainJournal → List Message
queued_in s j = flat_map (queued_at j.line.domain) (left_in s j).endpoints

abbrev pub messages_queued : Scenario → List DomainJournal → List Message
messages_queued s js = flat_map (queued_in s) js

-- what the frames say that were put on a lane and not taken, each with those before it on the lane
abbrev pub ring_says : List DomainJournal → Lane → List Reading
ring_says js l = drop (length (taken_from l.sender (journal_of l.receiver js))) (readings None (put_to l.receiver (journal_of l.sender js)))

abbrev pub ring_messages : List DomainJournal → Lane → List Message
ring_messages js l = messages_in l.sender l.receiver (ring_says js l)

abbrev pub messages_in_ring : Scenario → List DomainJournal → List Message
messages_in_ring s js = flat_map (ring_messages js) (lanes s)
