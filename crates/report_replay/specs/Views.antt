-- What the types of a replayed state stand for.
-- Source: docs/PROFILE.md, "A domain".
use Rattle.std.specs.Prelude.{Option, None, Some}
use Rattle.mc_base.specs.declared.channel.Reason.{Reason}
use Rattle.mc_base.specs.Letter as letter
use Rattle.mc_base.specs.Letter.{of_message, of_packet}
use Rattle.board_model.specs.State as state
use Rattle.board_model.specs.State.{connecting, connected, opened, closed, name_of, channel_of, message_at, packet_at, has_address, is_accepted, is_rejected, has_item, has_ended}
use Rattle.report_replay.specs.declared.channel.Stage.{Stage}
use Rattle.report_replay.specs.declared.channel.Stage.TheVariants as stage
use Rattle.report_replay.specs.declared.channel.ChannelEnd.{ChannelEnd}
use Rattle.report_replay.specs.declared.part.Carrier.{Carrier}
use Rattle.report_replay.specs.declared.part.Carrier.TheVariants as carrier
use Rattle.report_replay.specs.declared.peer.Announcement.{Announcement}
use Rattle.report_replay.specs.declared.peer.Reply.{Reply}
use Rattle.report_replay.specs.declared.request.Asked.{Asked}
use Rattle.report_replay.specs.declared.request.Asked.TheVariants as asked
use Rattle.report_replay.specs.declared.request.Outcome.{Outcome}
use Rattle.report_replay.specs.declared.request.Outcome.TheVariants as outcome

abbrev pub stage_of : Stage → state.Stage
stage_of stage.Connecting = connecting
stage_of stage.Connected = connected
stage_of stage.Open = opened
stage_of stage.Closed = closed

abbrev pub end_of : ChannelEnd → state.ChannelEnd
end_of c = record { side = c.side; kind = c.kind; owner = c.owner; number = c.number; peer = c.peer; peer_address = c.peer_address; stage = stage_of c.stage; far_open = c.far_open; far_closed = c.far_closed }

abbrev pub carrier_of : Carrier → letter.Carrier
carrier_of (carrier.Message priority) = of_message priority
carrier_of (carrier.Packet channel) = of_packet channel

abbrev pub announcement_of : Announcement → state.Announcement
announcement_of a = record { local = a.local; address = a.address; create = a.create }

abbrev pub reply_of : Reply → state.Reply
reply_of r = record { source = r.source; destination = r.destination; channel = r.channel; reason = r.reason }

abbrev pub asked_of : Asked → state.Asked
asked_of (asked.Name name) = name_of name
asked_of (asked.Channel number) = channel_of number
asked_of (asked.Message at max) = message_at at max
asked_of (asked.Packet at) = packet_at at

abbrev pub outcome_of : Outcome → state.Outcome
outcome_of (outcome.Address address) = has_address address
outcome_of outcome.Accepted = is_accepted
outcome_of (outcome.Rejected reason) = is_rejected reason
outcome_of (outcome.Item item) = has_item item
outcome_of (outcome.Ended word) = has_ended word

-- how a request to connect is complete: rejected with a reason, or accepted
abbrev pub settling : Option Reason → state.Outcome
settling None = is_accepted
settling (Some reason) = is_rejected reason
