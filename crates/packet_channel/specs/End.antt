-- Which end of a channel a record stands for, and what its calls answer.
-- Source: the code of the record. Where both ends are closed the channel ended, and the record stands for none.
use Rattle.std.specs.Prelude.{◌&&◌, Option, Some, None, Result, Ok, Err, if◌then◌else◌}
use Rattle.mc_base.specs.declared.refusal.Refusal.{Refusal}
use Rattle.board_model.specs.State.{Stage, connecting, connected, opened, closed, ChannelEnd}
use Rattle.board_model.specs.ChannelEnds.{EndCall, end_refusal, is_closed}
use Rattle.packet_channel.specs.declared.channel.Channel.{Channel}
use Rattle.packet_channel.specs.declared.channel.Stage as declared
use Rattle.packet_channel.specs.declared.channel.Stage.TheVariants as stage

abbrev pub stage_of : declared.Stage → Stage
stage_of stage.Connecting = connecting
stage_of stage.Connected = connected
stage_of stage.Open = opened
stage_of stage.Closed = closed

abbrev pub end_of : Channel → ChannelEnd
end_of c = record { side = c.side; kind = c.kind; owner = c.owner; number = c.number; peer = c.peer; peer_address = c.peer_addr; stage = stage_of c.stage; far_open = c.far_open; far_closed = c.far_closed }

abbrev pub kept_end : Channel → Option ChannelEnd
kept_end c = if is_closed (stage_of c.stage) && c.far_closed then None else Some (end_of c)

-- the answer to a call at the end
abbrev pub answered : Option Refusal → Result (Unit {0}) Refusal
answered None = Ok tt
answered (Some word) = Err word

abbrev pub may : EndCall → ChannelEnd → Result (Unit {0}) Refusal
may call c = answered (end_refusal call (Some c))
