-- Changes: what can happen to the state of a domain, one small thing at a time. What a taken frame does and what a call does are
-- lists of these.
-- Source: docs/PROFILE.md, "A domain". Endpoints are named by their addresses, peers by their numbers, and a request by its place
-- or as the oldest that waits.
use Rattle.std.specs.Prelude.{ℕ, ◌+◌, ◌-◌, ◌%◌, ◌^◌, not, ◌&&◌, ◌==◌, Bool, false, List, [], ◌∷◌, ◌++◌, map, filter, drop, length, Option, None, Some, is_none, if◌then◌else◌}
use Rattle.mc_base.specs.Limits.{first_address}
use Rattle.mc_base.specs.NameMap.{Names}
use Rattle.mc_base.specs.declared.name.Local.{Local}
use Rattle.mc_base.specs.declared.name.EndName.{EndName}
use Rattle.mc_base.specs.declared.refusal.Refusal.{Refusal}
use Rattle.board_model.specs.Lists.{without, changed_first, with_rising}
use Rattle.board_model.specs.Choice.{without_best}
use Rattle.board_model.specs.State.{Item, ChannelEnd, Endpoint, Asked, name_of, channel_of, Outcome, has_address, has_item, has_ended, Request, LentPacket, Announcement, Reply, Part, HeldFrame, holds_from, Peer, DomainState, has_address_of, endpoint_of, waits_at, is_numbered, is_owed_end}

pub data Change : Type 0 where
  -- an endpoint of this name is made; the one with this address is gone, with all that is queued there
  endpoint_made : Local → Change
  endpoint_gone : ℕ → Change
  -- at the endpoint with this address an item is last in the queue, or the oldest of the best priority, or the oldest, is gone from it
  item_queued : ℕ → Item → Change
  best_gone : ℕ → Change
  oldest_gone : ℕ → Change
  -- an item that comes to the endpoint with this address, whose end of the channel is closed, is lost
  item_lost : ℕ → Item → Change
  -- the endpoint with this address has this channel from now on, or none; the second also empties its queue
  channel_set : ℕ → Option ChannelEnd → Change
  queue_dropped : ℕ → Option ChannelEnd → Change
  -- a request is added, complete or not
  request_added : Asked → Option Outcome → Change
  -- the oldest receive that waits at the endpoint with this address is completed with the item; all that wait there, with a word
  item_handed : ℕ → Item → Change
  waiting_ended : ℕ → Refusal → Change
  -- pending lookups of the name are completed with the address
  name_found : EndName → ℕ → Change
  -- pending requests to connect on this channel are completed
  connect_settled : ℕ → Outcome → Change
  -- the request at this place is gone
  request_gone : Option ℕ → Change
  -- each linked domain is owed the announcement
  end_announced : Announcement → Change
  -- the peer is owed a reply
  reply_owed : ℕ → Reply → Change
  -- the first frame that is owed to the peer is put
  owed_put : ℕ → Change
  -- this many buffers came back from the peer; this many of its frames are shown; the oldest of these is taken, and
  -- after it this part of the peer is open, with the frames of these names
  buffers_back : ℕ → ℕ → Change
  frames_shown : ℕ → ℕ → Change
  frame_taken : ℕ → Option Part → List ℕ → Change
  -- these names are known of the peer
  names_known : ℕ → Names → Change
  -- this many buffers of the lane to the peer are used
  buffers_used : ℕ → ℕ → Change
  -- a packet is lent, and the one at this place is no longer
  packet_lent : Item → Change
  packet_gone : Option ℕ → Change
  -- the number of a channel is used
  channel_given : Change

-- ---- endpoints

abbrev pub endpoint_with : DomainState → Local → Endpoint
endpoint_with s at = record { local = at; address = first_address + s.endpoints_given; queue = []; channel = None }

abbrev pub with_queue : (List Item → List Item) → Endpoint → Endpoint
with_queue f e = record e { queue = f e.queue }

abbrev pub with_channel : Option ChannelEnd → Endpoint → Endpoint
with_channel c e = record e { channel = c }

abbrev pub without_queue : Option ChannelEnd → Endpoint → Endpoint
without_queue c e = record e { queue = []; channel = c }

-- the endpoint with this address changes
abbrev pub at_address : ℕ → (Endpoint → Endpoint) → List Endpoint → List Endpoint
at_address a f es = changed_first (has_address_of a) f es

abbrev pub endpoints_after : Change → DomainState → List Endpoint
endpoints_after (endpoint_made at) s = s.endpoints ++ endpoint_with s at ∷ []
endpoints_after (endpoint_gone a) s = filter (λ e. not (has_address_of a e)) s.endpoints
endpoints_after (item_queued a i) s = at_address a (with_queue (λ q. q ++ i ∷ [])) s.endpoints
endpoints_after (best_gone a) s = at_address a (with_queue (without_best (λ i. i.priority))) s.endpoints
endpoints_after (oldest_gone a) s = at_address a (with_queue (drop 1)) s.endpoints
endpoints_after (channel_set a c) s = at_address a (with_channel c) s.endpoints
endpoints_after (queue_dropped a c) s = at_address a (without_queue c) s.endpoints
endpoints_after other s = s.endpoints

-- ---- requests

abbrev pub done_with : Outcome → Request → Request
done_with o r = record r { outcome = Some o }

abbrev pub same_name : EndName → EndName → Bool
same_name n m = m.domain == n.domain && (m.node == n.node && m.port == n.port)

abbrev pub asks_for : EndName → Asked → Bool
asks_for n (name_of m) = same_name n m
asks_for n other = false

abbrev pub connects_on : ℕ → Asked → Bool
connects_on n (channel_of m) = m == n
connects_on n other = false

-- the pending requests that ask for this are completed
abbrev pub all_done : (Asked → Bool) → Outcome → Request → Request
all_done asks o r = if is_none r.outcome && asks r.asked then done_with o r else r

abbrev pub handed_in : Option Endpoint → Item → List Request → List Request
handed_in None i rs = rs
handed_in (Some e) i rs = changed_first (waits_at e.local) (done_with (has_item i)) rs

abbrev pub ended_in : Option Endpoint → Refusal → List Request → List Request
ended_in None word rs = rs
ended_in (Some e) word rs = map (λ r. if waits_at e.local r then done_with (has_ended word) r else r) rs

abbrev pub requests_after : Change → DomainState → List Request
requests_after (request_added asked o) s = s.requests ++ record { serial = s.requests_given; asked = asked; outcome = o } ∷ []
requests_after (item_handed a i) s = handed_in (endpoint_of s a) i s.requests
requests_after (waiting_ended a word) s = ended_in (endpoint_of s a) word s.requests
requests_after (name_found n a) s = map (all_done (asks_for n) (has_address a)) s.requests
requests_after (connect_settled n o) s = map (all_done (connects_on n) o) s.requests
requests_after (request_gone place) s = without place s.requests
requests_after other s = s.requests

-- ---- peers

-- nothing is announced to the domain itself
abbrev pub also_owed : ℕ → Announcement → Peer → Peer
also_owed domain a p = if p.number == domain then p else record p { announcements = p.announcements ++ a ∷ [] }

-- announcements are put before replies, and each uses a buffer
abbrev pub first_put : Peer → Peer
first_put p = if length p.announcements == 0 then record p { free = p.free - 1; replies = drop 1 p.replies } else record p { free = p.free - 1; announcements = drop 1 p.announcements }

-- the peer of this number changes
abbrev pub at_peer : ℕ → (Peer → Peer) → List Peer → List Peer
at_peer n f ps = changed_first (is_numbered n) f ps

abbrev pub peers_after : Change → DomainState → List Peer
peers_after (end_announced a) s = map (also_owed s.number a) s.peers
peers_after (reply_owed n r) s = at_peer n (λ p. record p { replies = p.replies ++ r ∷ [] }) s.peers
peers_after (owed_put n) s = at_peer n first_put s.peers
peers_after (buffers_back n count) s = at_peer n (λ p. record p { free = p.free + count }) s.peers
peers_after (frames_shown n count) s = at_peer n (λ p. record p { shown = count }) s.peers
peers_after (frame_taken n part names) s = at_peer n (λ p. record p { shown = p.shown - 1; part = part }) s.peers
peers_after (names_known n names) s = at_peer n (λ p. record p { known = names }) s.peers
peers_after (buffers_used n count) s = at_peer n (λ p. record p { free = p.free - count }) s.peers
peers_after other s = s.peers

-- ---- lent packets

abbrev pub lent_after : Change → DomainState → List LentPacket
lent_after (packet_lent i) s = s.lent ++ record { serial = s.packets_lent; item = i } ∷ []
lent_after (packet_gone place) s = without place s.lent
lent_after other s = s.lent

-- ---- frames in open parts

abbrev pub held_as : ℕ → ℕ → HeldFrame
held_as peer name = record { peer = peer; name = name }

abbrev pub held_after : Change → DomainState → List HeldFrame
held_after (frame_taken n part names) s = filter (λ h. not (holds_from n h)) s.held ++ map (held_as n) names
held_after other s = s.held

-- ---- records of endpoints that are gone, and counts

-- a record is in use until every linked domain was announced that its endpoint is gone
abbrev pub ended_after : Change → DomainState → List ℕ
ended_after (endpoint_gone a) s = with_rising a s.ended
ended_after (end_announced a) s = filter (is_owed_end (peers_after (end_announced a) s)) s.ended
ended_after (owed_put n) s = filter (is_owed_end (peers_after (owed_put n) s)) s.ended
ended_after other s = s.ended

abbrev pub endpoints_given_after : Change → ℕ → ℕ
endpoints_given_after (endpoint_made at) n = n + 1
endpoints_given_after other n = n

abbrev pub channels_given_after : Change → ℕ → ℕ
channels_given_after channel_given n = n + 1
channels_given_after other n = n

-- serials count modulo 2^64
abbrev pub requests_given_after : Change → ℕ → ℕ
requests_given_after (request_added asked o) n = (n + 1) % 2 ^ 64
requests_given_after other n = n

abbrev pub packets_lent_after : Change → ℕ → ℕ
packets_lent_after (packet_lent i) n = (n + 1) % 2 ^ 64
packets_lent_after other n = n

-- ---- the state after a change, and after changes one after the other

abbrev pub changed : DomainState → Change → DomainState
changed s c = record {
  number = s.number;
  nodes = s.nodes;
  endpoints = endpoints_after c s;
  ended = ended_after c s;
  peers = peers_after c s;
  requests = requests_after c s;
  lent = lent_after c s;
  held = held_after c s;
  endpoints_given = endpoints_given_after c s.endpoints_given;
  channels_given = channels_given_after c s.channels_given;
  requests_given = requests_given_after c s.requests_given;
  packets_lent = packets_lent_after c s.packets_lent;
}

abbrev pub changed_all : DomainState → List Change → DomainState
changed_all s [] = s
changed_all s (c ∷ cs) = changed_all (changed s c) cs
