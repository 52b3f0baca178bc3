-- Messages and packets that come in parts, as the code has them.
-- Source: docs/FORMATS.md, "Payload header, version 2", and docs/PROFILE.md, "What a domain does with a taken frame".
use Rattle.std.specs.Prelude.{ℕ, List, Option, None, Some}
use Rattle.mc_base.specs.Letter as letter
use Rattle.board_model.specs.State.{Part}
use Rattle.domain_parts.specs.declared.parts.Carrier.{Carrier}
use Rattle.domain_parts.specs.declared.parts.Carrier.TheVariants as carrier
use Rattle.domain_parts.specs.declared.parts.ItemKind.{ItemKind}
use Rattle.domain_parts.specs.declared.parts.ItemKind.TheVariants as kind
use Rattle.domain_parts.specs.declared.parts.OpenPart.{OpenPart}

-- what carries an item
abbrev pub carrier_in : Carrier → letter.Carrier
carrier_in (carrier.Message priority) = letter.of_message priority
carrier_in (carrier.Packet channel) = letter.of_packet channel

-- the priority and the channel that it has by it
abbrev pub carrier_priority : letter.Carrier → ℕ
carrier_priority (letter.of_message priority) = priority
carrier_priority (letter.of_packet channel) = 0

abbrev pub carrier_channel : letter.Carrier → Option ℕ
carrier_channel (letter.of_message priority) = None
carrier_channel (letter.of_packet channel) = Some channel

-- its kind, and its priority and channel, of which each is 0 where it has none
abbrev pub kind_in : Carrier → ItemKind
kind_in (carrier.Message priority) = kind.Message
kind_in (carrier.Packet channel) = kind.Packet

abbrev pub priority_in : Carrier → ℕ
priority_in (carrier.Message priority) = priority
priority_in (carrier.Packet channel) = 0

abbrev pub channel_in : Carrier → ℕ
channel_in (carrier.Message priority) = 0
channel_in (carrier.Packet channel) = channel

-- what carries an item of a kind
abbrev pub carrier_by : ItemKind → ℕ → ℕ → letter.Carrier
carrier_by kind.Message priority channel = letter.of_message priority
carrier_by kind.Packet priority channel = letter.of_packet channel

abbrev pub carrier_of : OpenPart → letter.Carrier
carrier_of o = carrier_by o.kind o.priority o.channel

-- an open part of which these bytes came
abbrev pub part_with : OpenPart → List ℕ → Part
part_with o content = record { source = o.source; destination = o.destination; carrier = carrier_of o; total = o.total; content = content }
