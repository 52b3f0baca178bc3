-- The endpoints of a domain, as the table of them is seen: their names and addresses, the buffers that wait there, and the packets that
-- were received there and are lent.
-- Source: docs/PROFILE.md, "A domain". Of a buffer that waits stand its slot and its priority here; what it holds is told
-- in the book of buffers.
use Rattle.std.specs.Prelude.{ℕ, ◌+◌, Bool, not, ◌==◌, List, [], ◌∷◌, ◌++◌, map, filter, find, slice_get, Option, None, Some, is_none, if◌then◌else◌}
use Rattle.std.specs.List.{flat_map}
use Rattle.mc_base.specs.Limits.{first_address}
use Rattle.mc_base.specs.declared.name.Local.{Local}
use Rattle.mc_base.specs.declared.request.PacketId.{PacketId}
use Rattle.mc_base.specs.declared.request.Slot.{Slot}
use Rattle.buffer_book.specs.Book.{slot_of}
use Rattle.message_queue.specs.Queue.{Waiting, empty_queue, pushed, popped_best, popped_oldest}
use Rattle.packet_channel.specs.End.{kept_end}
use Rattle.packet_channel.specs.declared.channel.Channel.{Channel}
use Rattle.board_model.specs.Lists.{changed_at, without_at}
use Rattle.domain_parts.specs.declared.endpoints.Endpoint.{Endpoint}
use Rattle.domain_parts.specs.declared.parts.OpenPart.{OpenPart}

-- the domain's number, its endpoints, how many were created, how many channels were numbered, the packets that are lent, in the order in
-- which they were lent, the open parts, in the order in which they grew last, and for how many buffers each queue has room
pub record Records : Type 0 where
  pub number : ℕ
  pub endpoints : List Endpoint
  pub given : ℕ
  pub channels : ℕ
  pub lent : List PacketId
  pub parts : List OpenPart
  pub room : ℕ

abbrev pub opening_records : ℕ → ℕ → Records
opening_records number room = record { number = number; endpoints = []; given = 0; channels = 0; lent = []; parts = []; room = room }

-- one more endpoint, at which nothing waits
abbrev pub new_record : ℕ → Local → ℕ → Endpoint
new_record room at address = record { local = at; address = address; queue = empty_queue room; channel = None }

abbrev pub with_record : Records → Local → Records
with_record r at = record r { endpoints = r.endpoints ++ new_record r.room at (first_address + r.given) ∷ []; given = r.given + 1 }

-- a buffer more, last at the endpoint at a place
abbrev pub with_waiting : Waiting → Endpoint → Endpoint
with_waiting w e = record e { queue = pushed e.queue w }

abbrev pub with_waiting_at : Records → ℕ → Waiting → Records
with_waiting_at r i w = record r { endpoints = changed_at (with_waiting w) i r.endpoints }

-- the oldest of the best priority at a place is gone
abbrev pub with_best_taken : Endpoint → Endpoint
with_best_taken e = record e { queue = popped_best e.queue }

abbrev pub with_best_taken_at : Records → ℕ → Records
with_best_taken_at r i = record r { endpoints = changed_at with_best_taken i r.endpoints }

-- the oldest at a place is gone
abbrev pub with_oldest_taken : Endpoint → Endpoint
with_oldest_taken e = record e { queue = popped_oldest e.queue }

abbrev pub with_oldest_taken_at : Records → ℕ → Records
with_oldest_taken_at r i = record r { endpoints = changed_at with_oldest_taken i r.endpoints }

-- the endpoint at a place is gone
abbrev pub without_record_at : Records → ℕ → Records
without_record_at r i = record r { endpoints = without_at i r.endpoints }

-- an end of a channel, or none where both ends are closed
abbrev pub kept : Channel → Option Channel
kept c = if is_none (kept_end c) then None else Some c

-- the endpoint at a place has this end of a channel, or none
abbrev pub with_end : Option Channel → Endpoint → Endpoint
with_end c e = record e { channel = c }

abbrev pub with_channel_at : Records → ℕ → Option Channel → Records
with_channel_at r i c = record r { endpoints = changed_at (with_end c) i r.endpoints }

-- one channel more is numbered
abbrev pub with_channel_given : Records → Records
with_channel_given r = record r { channels = r.channels + 1 }

-- a packet is lent, and the one at a place no longer
abbrev pub with_last_lent : Records → PacketId → Records
with_last_lent r id = record r { lent = r.lent ++ id ∷ [] }

abbrev pub without_lent_at : Records → ℕ → Records
without_lent_at r i = record r { lent = without_at i r.lent }

-- without the open part of a peer, and with this one in its place
abbrev pub is_part_of : ℕ → OpenPart → Bool
is_part_of peer o = o.slot.peer == peer

abbrev pub without_part : ℕ → List OpenPart → List OpenPart
without_part peer os = filter (λ o. not (is_part_of peer o)) os

abbrev pub with_part : OpenPart → List OpenPart → List OpenPart
with_part o os = without_part o.slot.peer os ++ o ∷ []

abbrev pub without_part_of : Records → ℕ → Records
without_part_of r peer = record r { parts = without_part peer r.parts }

abbrev pub with_part_open : Records → OpenPart → Records
with_part_open r o = record r { parts = with_part o r.parts }

-- the open part of a peer
abbrev pub part_open : Records → ℕ → Option OpenPart
part_open r peer = find (is_part_of peer) r.parts

-- what waits at an endpoint, and at all of them
abbrev pub waiting_in : Option Endpoint → List Waiting
waiting_in None = []
waiting_in (Some e) = e.queue.waiting

abbrev pub all_waiting : List Endpoint → List Waiting
all_waiting es = flat_map (λ e. e.queue.waiting) es

-- their buffers, the oldest first, where they wait at the endpoint at a place
abbrev pub slots_at : Records → ℕ → List Slot
slots_at r i = map (λ w. w.slot) (waiting_in (slice_get r.endpoints i))

-- the first buffers of the open parts
abbrev pub part_slots : List OpenPart → List Slot
part_slots os = map (λ o. o.slot) os

-- the buffers of the packets that are lent
abbrev pub lent_slots : Records → List Slot
lent_slots r = map slot_of r.lent
