-- The receiver's end of a channel among the endpoints of a domain, and the messages that are queued at one.
-- Source: docs/PROFILE.md, "Messages" and "Channels". A channel is named by the sender's domain, which owns it, and its number.
use Rattle.std.specs.Prelude.{ℕ, Bool, length, is_none, option_map, if◌then◌else◌}
use Rattle.board_model.specs.Queues.{is_receiver_of}
use Rattle.packet_channel.specs.End.{end_of}
use Rattle.domain_parts.specs.declared.endpoints.Endpoint.{Endpoint}

-- an endpoint has that end
abbrev pub hears_at : ℕ → ℕ → Endpoint → Bool
hears_at owner number e = is_receiver_of owner number (option_map end_of e.channel)

-- how many messages are queued at an endpoint: at one with a channel only its items are
abbrev pub messages_waiting : Endpoint → ℕ
messages_waiting e = if is_none e.channel then length e.queue.waiting else 0
