-- The state of a domain.
-- Source: docs/PROFILE.md, "A domain". Lists are in the order in which their items came. Buffers and requests are named by their
-- places in these lists.
use Rattle.std.specs.Prelude.{ℕ, ◌+◌, Bool, false, not, ◌&&◌, List, [], ◌∷◌, ◌++◌, ◌==◌, map, filter, length, position, find, slice_get, Option, None, Some, option_map, option_and_then, unwrap_or, is_none}
use Rattle.std.specs.List.{flat_map, list_any}
use Rattle.mc_base.specs.Limits.{name_service_address}
use Rattle.mc_base.specs.Frame.{made}
use Rattle.mc_base.specs.Letter.{PlainLetter, Carrier, accept, reject, spelling}
use Rattle.mc_base.specs.Announcement.{announcement}
use Rattle.mc_base.specs.FullName.{end_name, full_name}
use Rattle.mc_base.specs.NameMap.{Names}
use Rattle.mc_base.specs.declared.name.Local.{Local}
use Rattle.mc_base.specs.declared.name.EndName.{EndName}
use Rattle.mc_base.specs.declared.channel.Kind.{Kind}
use Rattle.mc_base.specs.declared.channel.Side.{Side}
use Rattle.mc_base.specs.declared.channel.Reason.{Reason}
use Rattle.mc_base.specs.declared.refusal.Refusal.{Refusal}
use Rattle.board_model.specs.Scenario.{Neighbour}

-- a message or packet that is held: which peer sent it, from which address, its priority, the number of its channel or none, its
-- content, and the names of the frames that brought it. What a frame is named by is left open: a domain names it by its buffer's
-- number, and a journal by its place among the frames taken from the peer
pub record Item : Type 0 where
  pub peer : ℕ
  pub source : ℕ
  pub priority : ℕ
  pub channel : Option ℕ
  pub content : List ℕ
  pub frames : List ℕ

-- the stages of a channel's end
pub data Stage : Type 0 where
  connecting : Stage
  connected : Stage
  opened : Stage
  closed : Stage

-- one end of a channel, which its sender's domain owns and numbered
pub record ChannelEnd : Type 0 where
  pub side : Side
  pub kind : Kind
  pub owner : ℕ
  pub number : ℕ
  pub peer : ℕ
  pub peer_address : ℕ
  pub stage : Stage
  pub far_open : Bool
  pub far_closed : Bool

-- a live endpoint: its name in its domain, its address, its queue, and its channel or none
pub record Endpoint : Type 0 where
  pub local : Local
  pub address : ℕ
  pub queue : List Item
  pub channel : Option ChannelEnd

-- what a request asks for
pub data Asked : Type 0 where
  name_of : EndName → Asked
  channel_of : ℕ → Asked
  message_at : Local → ℕ → Asked
  packet_at : Local → Asked

-- how a request was completed
pub data Outcome : Type 0 where
  has_address : ℕ → Outcome
  is_accepted : Outcome
  is_rejected : Reason → Outcome
  has_item : Item → Outcome
  has_ended : Refusal → Outcome

-- a request, pending or complete
pub record Request : Type 0 where
  pub serial : ℕ
  pub asked : Asked
  pub outcome : Option Outcome

-- a packet that is lent
pub record LentPacket : Type 0 where
  pub serial : ℕ
  pub item : Item

-- what is to be announced to a linked domain: that the endpoint of this name and address exists from now on (`create`), or is gone
pub record Announcement : Type 0 where
  pub local : Local
  pub address : ℕ
  pub create : Bool

-- the answer that is owed to a Connect: from the address that it named, to the one that it came from, an Accept of the channel, or a
-- Reject with its reason
pub record Reply : Type 0 where
  pub source : ℕ
  pub destination : ℕ
  pub channel : ℕ
  pub reason : Option Reason

-- a message or packet of which not all frames came yet: where it comes from and goes to, what carries it, how many bytes the whole has,
-- and those that came
pub record Part : Type 0 where
  pub source : ℕ
  pub destination : ℕ
  pub carrier : Carrier
  pub total : ℕ
  pub content : List ℕ

-- a frame that is held in the open part of a peer, by its name
pub record HeldFrame : Type 0 where
  pub peer : ℕ
  pub name : ℕ

-- a peer, the domain itself among them: the lane to it with its free buffers, the frames of the lane from it that were
-- shown and not taken, the announcements and replies that are owed to it, the addresses known of its names, and its open part or none
pub record Peer : Type 0 where
  pub number : ℕ
  pub size : ℕ
  pub free : ℕ
  pub shown : ℕ
  pub announcements : List Announcement
  pub replies : List Reply
  pub known : Names
  pub part : Option Part

-- `endpoints` are the live ones in the order of their creation, and `ended` the addresses, in rising order, of those deleted whose end
-- is still to be announced to some linked domain. Each of both uses a record
pub record DomainState : Type 0 where
  pub number : ℕ
  pub nodes : ℕ
  pub endpoints : List Endpoint
  pub ended : List ℕ
  pub peers : List Peer
  pub requests : List Request
  pub lent : List LentPacket
  pub held : List HeldFrame
  pub endpoints_given : ℕ
  pub channels_given : ℕ
  pub requests_given : ℕ
  pub packets_lent : ℕ

-- a peer at the opening: every buffer is free, and nothing is known or owed
abbrev pub new_peer : Neighbour → Peer
new_peer n = record { number = n.number; size = n.size; free = n.size; shown = 0; announcements = []; replies = []; known = []; part = None }

-- the state at the opening
abbrev pub opening : ℕ → ℕ → List Neighbour → DomainState
opening number nodes neighbours = record { number = number; nodes = nodes; endpoints = []; ended = []; peers = map new_peer neighbours; requests = []; lent = []; held = []; endpoints_given = 0; channels_given = 0; requests_given = 0; packets_lent = 0 }

-- ---- endpoints

abbrev pub is_at : Local → Endpoint → Bool
is_at local e = e.local.node == local.node && e.local.port == local.port

abbrev pub has_address_of : ℕ → Endpoint → Bool
has_address_of address e = e.address == address

-- the place of the endpoint with this name, and of that with this address
abbrev pub place_at : DomainState → Local → Option ℕ
place_at s local = position (is_at local) s.endpoints

abbrev pub place_of_address : DomainState → ℕ → Option ℕ
place_of_address s address = position (has_address_of address) s.endpoints

abbrev pub endpoint_at : DomainState → Local → Option Endpoint
endpoint_at s local = option_and_then (λ i. slice_get s.endpoints i) (place_at s local)

-- the live endpoint with this name, and with this address
abbrev pub live_at : DomainState → Local → Option Endpoint
live_at s local = find (is_at local) s.endpoints

abbrev pub endpoint_of : DomainState → ℕ → Option Endpoint
endpoint_of s address = find (has_address_of address) s.endpoints

-- the address of the endpoint of this name
abbrev pub address_at : DomainState → Local → Option ℕ
address_at s local = option_map (λ e. e.address) (endpoint_at s local)

-- its channel
abbrev pub channel_in : Option Endpoint → Option ChannelEnd
channel_in None = None
channel_in (Some e) = e.channel

-- its queue
abbrev pub queue_in : Option Endpoint → List Item
queue_in None = []
queue_in (Some e) = e.queue

abbrev pub queue_at : DomainState → Local → List Item
queue_at s local = queue_in (endpoint_at s local)

-- ---- requests

-- the request at a place
abbrev pub request_at_place : DomainState → Option ℕ → Option Request
request_at_place s place = option_and_then (λ i. slice_get s.requests i) place

-- the place of the request of this serial
abbrev pub has_serial : ℕ → Request → Bool
has_serial serial r = r.serial == serial

abbrev pub place_of_request : DomainState → ℕ → Option ℕ
place_of_request s serial = position (has_serial serial) s.requests

-- a receive at the endpoint of this name
abbrev pub receives_at : Local → Asked → Bool
receives_at local (message_at at max) = at.node == local.node && at.port == local.port
receives_at local (packet_at at) = at.node == local.node && at.port == local.port
receives_at local other = false

-- a pending receive at the endpoint of this name
abbrev pub waits_at : Local → Request → Bool
waits_at local r = is_none r.outcome && receives_at local r.asked

-- whether a receive waits there
abbrev pub one_waits : DomainState → Local → Bool
one_waits s local = list_any (waits_at local) s.requests

-- the oldest receive that waits there
abbrev pub oldest_waiting : DomainState → Local → Option Request
oldest_waiting s local = find (waits_at local) s.requests

-- the lent packet at a place, and the place of the one with this serial
abbrev pub packet_at_place : DomainState → Option ℕ → Option LentPacket
packet_at_place s place = option_and_then (λ i. slice_get s.lent i) place

abbrev pub is_lent_as : ℕ → LentPacket → Bool
is_lent_as serial p = p.serial == serial

abbrev pub place_of_packet : DomainState → ℕ → Option ℕ
place_of_packet s serial = position (is_lent_as serial) s.lent

-- the place of the oldest receive that waits there
abbrev pub place_of_waiting : DomainState → Local → Option ℕ
place_of_waiting s local = position (waits_at local) s.requests

-- the same at the live endpoint with this address
abbrev pub local_of_address : DomainState → ℕ → Option Local
local_of_address s address = option_map (λ e. e.local) (option_and_then (λ i. slice_get s.endpoints i) (place_of_address s address))

abbrev pub place_waiting_for : DomainState → ℕ → Option ℕ
place_waiting_for s address = option_and_then (place_of_waiting s) (local_of_address s address)

-- ---- peers

abbrev pub is_numbered : ℕ → Peer → Bool
is_numbered n p = p.number == n

abbrev pub place_of_peer : DomainState → ℕ → Option ℕ
place_of_peer s n = position (is_numbered n) s.peers

abbrev pub peer_of : DomainState → ℕ → Option Peer
peer_of s n = option_and_then (λ i. slice_get s.peers i) (place_of_peer s n)

-- the peer of this number
abbrev pub peer_at : DomainState → ℕ → Option Peer
peer_at s n = find (is_numbered n) s.peers

-- the free buffers of the lane to a peer, and all its buffers. The lane to a peer has one at least: a ring has a power of two from 2 on,
-- and a domain's own pool has 1 or more. To a domain that is no peer there is no lane, and it counts as one of no buffers
abbrev pub free_to : DomainState → ℕ → ℕ
free_to s n = unwrap_or (option_map (λ p. p.free) (peer_of s n)) 0

abbrev pub size_to : DomainState → ℕ → ℕ
size_to s n = unwrap_or (option_map (λ p. p.size) (peer_of s n)) 0

-- the frame of an announcement by a domain: from the endpoint's address to the name service
abbrev pub announcing : ℕ → Announcement → List ℕ
announcing domain a = made a.address name_service_address (announcement (full_name (end_name domain a.local)) a.address a.create)

-- the letter of a reply, and its frame
abbrev pub letter_by : ℕ → Option Reason → PlainLetter
letter_by channel None = accept channel
letter_by channel (Some reason) = reject channel reason

abbrev pub replying : Reply → List ℕ
replying r = made r.source r.destination (spelling (letter_by r.channel r.reason))

-- the frames that a domain owes to a peer: announcements first, and then replies, the oldest first
abbrev pub owed_to : ℕ → Peer → List (List ℕ)
owed_to domain p = map (announcing domain) p.announcements ++ map replying p.replies

-- that the endpoint of this address is gone is still to be announced
abbrev pub tells_gone : ℕ → Announcement → Bool
tells_gone address a = not a.create && a.address == address

abbrev pub is_owed_end : List Peer → ℕ → Bool
is_owed_end peers address = list_any (λ p. list_any (tells_gone address) p.announcements) peers

-- ---- held items

abbrev pub is_from : ℕ → Item → Bool
is_from n i = i.peer == n

abbrev pub queued_items : DomainState → List Item
queued_items s = flat_map (λ e. e.queue) s.endpoints

-- the item that a complete request holds until it is tested off
abbrev pub item_in : Option Outcome → List Item
item_in (Some (has_item i)) = i ∷ []
item_in other = []

-- the lent items: packets, and those of complete requests
abbrev pub lent_items : DomainState → List Item
lent_items s = map (λ p. p.item) s.lent ++ flat_map (λ r. item_in r.outcome) s.requests

-- the names of the frames that brought these items from a peer
abbrev pub frames_from : ℕ → List Item → List ℕ
frames_from peer items = flat_map (λ i. i.frames) (filter (is_from peer) items)

-- the names of the frames in the open part of a peer
abbrev pub holds_from : ℕ → HeldFrame → Bool
holds_from n h = h.peer == n

abbrev pub held_of : DomainState → ℕ → List ℕ
held_of s n = map (λ h. h.name) (filter (holds_from n) s.held)

-- how many buffers of the lane from a peer are in queues and in its open part, and how many are lent
abbrev pub queued_from : ℕ → DomainState → ℕ
queued_from n s = length (frames_from n (queued_items s)) + length (held_of s n)

abbrev pub lent_from : ℕ → DomainState → ℕ
lent_from n s = length (frames_from n (lent_items s))

abbrev pub held_from : ℕ → DomainState → ℕ
held_from n s = queued_from n s + lent_from n s
