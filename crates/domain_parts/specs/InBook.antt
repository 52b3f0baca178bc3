-- The endpoints, the requests and the lent packets as the board's definitions see them: what waits, was handed or is lent is read in the
-- book of buffers.
-- Source: docs/PROFILE.md, "Messages" and "Requests". A message lies in the buffers of its frames. The header of the first names its
-- source, and the letter there its priority; the contents of all, one after the other, are its content.
use Rattle.std.specs.Prelude.{ℕ, Bool, ◌==◌, List, [], ◌∷◌, length, map, slice_index, Option, None, Some, option_map, option_to_list, if◌then◌else◌}
use Rattle.std.specs.List.{flat_map}
use Rattle.mc_base.specs.Bytes.{number_at}
use Rattle.mc_base.specs.Frame.{source_of}
use Rattle.mc_base.specs.declared.request.PacketId.{PacketId}
use Rattle.mc_base.specs.declared.request.Slot.{Slot}
use Rattle.board_model.specs.State as state
use Rattle.board_model.specs.State.{LentPacket, frames_from}
use Rattle.buffer_book.specs.Book.{Book, Item, Kept, content, frames_of, item_at, kept_at, slot_of}
use Rattle.message_queue.specs.Queue.{Waiting}
use Rattle.packet_channel.specs.End.{end_of}
use Rattle.request_set.specs.declared.ask.Ask.{Ask}
use Rattle.request_set.specs.declared.ask.Ask.TheVariants as ask
use Rattle.request_set.specs.declared.ask.Complete.{Complete}
use Rattle.request_set.specs.declared.ask.Complete.TheVariants as complete
use Rattle.request_set.specs.Requests.{Standing, Requests}
use Rattle.domain_parts.specs.declared.endpoints.Endpoint.{Endpoint}
use Rattle.domain_parts.specs.declared.parts.OpenPart.{OpenPart}
use Rattle.domain_parts.specs.Pieces.{part_with}
use Rattle.domain_parts.specs.Table.{Held, PartRead, Table}
use Rattle.domain_parts.specs.Records.{Records}

-- the slot of a buffer of the lane from a peer
abbrev pub slot_at : ℕ → ℕ → Slot
slot_at peer n = record { peer = peer; buffer = n }

-- an item of the book, and what its frames hold, oldest first
pub record Whole : Type 0 where
  pub item : Item
  pub pieces : List Kept

abbrev pub pieces_of : Book → ℕ → List ℕ → List Kept
pieces_of b peer frames = flat_map (λ f. option_to_list (kept_at b (slot_at peer f))) frames

abbrev pub whole_of : Book → ℕ → Item → Whole
whole_of b peer i = record { item = i; pieces = pieces_of b peer (frames_of i) }

-- the item that a slot names
abbrev pub whole_at : Book → Slot → Option Whole
whole_at b slot = option_map (whole_of b slot.peer) (item_at b slot)

-- its frames and what they hold; there are none where a slot names no item
abbrev pub frames_in : Option Whole → List ℕ
frames_in None = []
frames_in (Some w) = frames_of w.item

abbrev pub pieces_in : Option Whole → List Kept
pieces_in None = []
pieces_in (Some w) = w.pieces

abbrev pub frames_at : Book → Slot → List ℕ
frames_at b slot = frames_in (whole_at b slot)

-- the contents of the frames, oldest first, and all of them as one
abbrev pub contents_in : Option Whole → List (List ℕ)
contents_in o = map content (pieces_in o)

abbrev pub joined_content : List (List ℕ) → List ℕ
joined_content contents = flat_map (λ c. c) contents

abbrev pub content_in : Option Whole → List ℕ
content_in o = joined_content (contents_in o)

-- In a frame, byte 18 is the kind of its letter, byte 19 the argument, and the four bytes from 20 on are the channel. A message is of
-- kind 1 and has its priority for argument; other items are of a channel, and of no priority
abbrev pub is_message_frame : List ℕ → Bool
is_message_frame frame = slice_index frame 18 == 1

abbrev pub priority_of : List ℕ → ℕ
priority_of frame = if is_message_frame frame then slice_index frame 19 else 0

abbrev pub channel_of : List ℕ → Option ℕ
channel_of frame = if is_message_frame frame then None else Some (number_at 20 4 frame)

-- the address that an item came from, its priority, and its channel or none: those that its first frame tells
abbrev pub source_by : List Kept → ℕ
source_by [] = 0
source_by (k ∷ ks) = source_of k.buffer.bytes

abbrev pub source_in : Option Whole → ℕ
source_in o = source_by (pieces_in o)

abbrev pub priority_by : List Kept → ℕ
priority_by [] = 0
priority_by (k ∷ ks) = priority_of k.buffer.bytes

abbrev pub priority_in : Option Whole → ℕ
priority_in o = priority_by (pieces_in o)

abbrev pub channel_by : List Kept → Option ℕ
channel_by [] = None
channel_by (k ∷ ks) = channel_of k.buffer.bytes

abbrev pub channel_in : Option Whole → Option ℕ
channel_in o = channel_by (pieces_in o)

-- the item that a slot names, with this priority; each frame is named by the number of its buffer
abbrev pub item_read : Option Whole → Slot → ℕ → state.Item
item_read o slot priority = record { peer = slot.peer; source = source_in o; priority = priority; channel = channel_in o; content = content_in o; frames = frames_in o }

-- what waits
abbrev pub item_in : Book → Waiting → state.Item
item_in b w = item_read (whole_at b w.slot) w.slot w.priority

-- what was handed or is lent
abbrev pub numbered_at : Book → Slot → state.Item
numbered_at b slot = item_read (whole_at b slot) slot (priority_in (whole_at b slot))

-- how many frames the items have that slots of a peer name
abbrev pub frames_count : Book → ℕ → List Slot → ℕ
frames_count b peer ss = length (frames_from peer (map (numbered_at b) ss))

abbrev pub endpoint_in : Book → Endpoint → state.Endpoint
endpoint_in b e = record { local = e.local; address = e.address; queue = map (item_in b) e.queue.waiting; channel = option_map end_of e.channel }

abbrev pub endpoints_in : Book → List Endpoint → List state.Endpoint
endpoints_in b es = map (endpoint_in b) es

abbrev pub asked_in : Ask → state.Asked
asked_in (ask.Lookup name) = state.name_of name
asked_in (ask.Connect channel) = state.channel_of channel
asked_in (ask.Message at max) = state.message_at at max
asked_in (ask.Packet at) = state.packet_at at

abbrev pub outcome_in : Book → Complete → state.Outcome
outcome_in b (complete.Address address) = state.has_address address
outcome_in b complete.Accepted = state.is_accepted
outcome_in b (complete.Rejected reason) = state.is_rejected reason
outcome_in b (complete.Message slot max) = state.has_item (numbered_at b slot)
outcome_in b (complete.Packet slot) = state.has_item (numbered_at b slot)
outcome_in b (complete.Ended word) = state.has_ended word

abbrev pub request_in : Book → Standing → state.Request
request_in b r = record { serial = r.id.serial; asked = asked_in r.ask; outcome = option_map (outcome_in b) r.complete }

abbrev pub requests_in : Book → List Standing → List state.Request
requests_in b rs = map (request_in b) rs

-- the packets that are lent, by their ids, and the contents of the frames of each
abbrev pub packet_in : Book → PacketId → LentPacket
packet_in b id = record { serial = id.serial; item = numbered_at b (slot_of id) }

abbrev pub packets_in : Book → List PacketId → List LentPacket
packets_in b ids = map (packet_in b) ids

abbrev pub contents_of : Book → List PacketId → List (List (List ℕ))
contents_of b ids = map (λ id. contents_in (whole_at b (slot_of id))) ids

-- the open parts: what came of each is what its frames hold
abbrev pub part_by : Option Whole → OpenPart → PartRead
part_by w o = record { peer = o.slot.peer; part = part_with o (content_in w); names = frames_in w }

abbrev pub part_read : Book → OpenPart → PartRead
part_read b o = part_by (whole_at b o.slot) o

abbrev pub open_parts : Book → List OpenPart → List PartRead
open_parts b os = map (part_read b) os

abbrev pub held_by : Book → Records → Requests → Held
held_by b r q = record { endpoints = endpoints_in b r.endpoints; requests = requests_in b q.standing; lent = packets_in b r.lent; parts = open_parts b r.parts }

abbrev pub table_in : Book → Records → Requests → Table
table_in b r q = record { number = r.number; held = held_by b r q; given = r.given; room = r.room; requests_given = q.given }
