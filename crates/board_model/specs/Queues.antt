-- What is queued at the endpoints of a domain: messages, and the items of channels.
-- Source: docs/PROFILE.md, "Messages" and "Channels". A channel is named by the sender's domain, which owns it, and its number.
use Rattle.std.specs.Prelude.{ℕ, Bool, false, find, length, Option, None, Some, is_none, if◌then◌else◌}
use Rattle.board_model.specs.ChannelEnds.{hears_from}
use Rattle.board_model.specs.State.{ChannelEnd, DomainState, Endpoint, queue_in}

-- how many messages are queued at an endpoint: at one with a channel only its items are
abbrev pub messages_at : Endpoint → ℕ
messages_at e = if is_none e.channel then length e.queue else 0

-- the endpoint has the receiver's end of a channel
abbrev pub is_receiver_of : ℕ → ℕ → Option ChannelEnd → Bool
is_receiver_of owner number None = false
is_receiver_of owner number (Some c) = hears_from owner number c

abbrev pub hears : ℕ → ℕ → Endpoint → Bool
hears owner number e = is_receiver_of owner number e.channel

-- how many items are queued at that end
abbrev pub queued_on : ℕ → ℕ → DomainState → ℕ
queued_on owner number s = length (queue_in (find (hears owner number) s.endpoints))
