-- The steps that a domain makes inside, and what each does to its parts and at the ends towards its peers.
-- Source: docs/PROFILE.md, "Calls". A step names the place, the slot and the request that it is about, and the number of each buffer that
-- is given back.
use Rattle.std.specs.Prelude.{◌≡◌, ℕ, ◌+◌, ◌%◌, ◌^◌, ◌==◌, cond, List, [], ◌∷◌, ◌++◌, drop, map, take, Option, None, Some}
use Rattle.mc_base.specs.FullName.{end_name}
use Rattle.mc_base.specs.NameMap.{Names}
use Rattle.mc_base.specs.Stored.{Stored}
use Rattle.mc_base.specs.declared.name.EndName.{EndName}
use Rattle.mc_base.specs.declared.name.Local.{Local}
use Rattle.mc_base.specs.declared.refusal.Refusal.{Refusal}
use Rattle.mc_base.specs.declared.refusal.Refusal.TheVariants.{EndpInvalid}
use Rattle.mc_base.specs.declared.request.PacketId.{PacketId}
use Rattle.mc_base.specs.declared.request.RequestId.{RequestId}
use Rattle.mc_base.specs.declared.request.Slot.{Slot}
use Rattle.lane_end.specs.SendMoves.{Looked, Sent}
use Rattle.lane_end.specs.ReceiveMoves.{Gave, Took}
use Rattle.lane_end.specs.ReceiveMoves as receiving
use Rattle.board_model.specs.Lists as lists
use Rattle.buffer_book.specs.Book.{Book, kept_in_buffer, slot_of, with_joined, with_lent, with_queued, with_taken}
use Rattle.endpoint_table.specs.Table as endpoint_table
use Rattle.request_set.specs.declared.ask.Ask.{Ask}
use Rattle.request_set.specs.declared.ask.Ask.TheVariants as ask
use Rattle.request_set.specs.declared.ask.Complete.{Complete}
use Rattle.request_set.specs.declared.ask.Complete.TheVariants as complete
use Rattle.request_set.specs.Requests.{Requests, with_complete}
use Rattle.message_queue.specs.Queue.{waiting}
use Rattle.packet_channel.specs.declared.channel.Channel.{Channel}
use Rattle.domain_parts.specs.LaneSeen.{LaneSeen, after_move, after_moves}
use Rattle.domain_parts.specs.declared.parts.OpenPart.{OpenPart}
use Rattle.domain_parts.specs.declared.peer.Peer.{Peer}
use Rattle.domain_parts.specs.declared.replies.Reply.{Reply}
use Rattle.domain_parts.specs.declared.requests.Waiters.TheVariants as waiters
use Rattle.domain_parts.specs.AllMoved.{AllMoved, giving, numbers_of}
use Rattle.domain_parts.specs.InPlaces.{slot_at}
use Rattle.domain_parts.specs.InRequests.{handed_by, with_all_complete}
use Rattle.domain_parts.specs.LaneMoves.{LaneMove, sender, receiver}
use Rattle.domain_parts.specs.Parts.{Holding, Parts}
use Rattle.domain_parts.specs.Records.{Records, with_best_taken_at, with_channel_at, with_channel_given, with_last_lent, with_oldest_taken_at, with_record, with_part_open, with_waiting_at, without_lent_at, without_part_of, without_record_at}

-- each peer, after the moves at the peer of its number
abbrev pub moved_peer : (ℕ → List LaneMove) → Peer LaneSeen → Peer LaneSeen
moved_peer moves p = record p { ends = after_moves (moves p.number) p.ends }

-- the peer of this number changes
abbrev pub changed_peer : ℕ → (Peer LaneSeen → Peer LaneSeen) → Peer LaneSeen → Peer LaneSeen
changed_peer peer f p = cond (peer == p.number) (f p) p

-- these names are known of it; a reply more is owed to it; the oldest reply is put to it, in this frame
abbrev pub with_names : Names → Peer LaneSeen → Peer LaneSeen
with_names names p = record p { known = names }

abbrev pub with_reply : Reply → Peer LaneSeen → Peer LaneSeen
with_reply r p = record p { replies = p.replies ++ r ∷ [] }

abbrev pub with_reply_put : List ℕ → Peer LaneSeen → Peer LaneSeen
with_reply_put frame p = record p { ends = after_move (sender (Sent frame)) p.ends; replies = drop 1 p.replies }

-- ---- steps

pub data Step : Type 0 where
  -- an endpoint is made in this domain, with this name and address
  endpoint_made : ℕ → Local → ℕ → Step
  -- the endpoint at a place, which has this name and at which nothing waits, is gone
  endpoint_gone : ℕ → Local → Step
  -- the best message at a place, which this slot names, is dropped, and so is the oldest; these are its frames
  best_dropped : ℕ → Slot → List ℕ → Step
  oldest_dropped : ℕ → Slot → List ℕ → Step
  -- a frame is put to a peer
  frame_put : ℕ → List ℕ → Step
  -- a request with this id is begun, and may be complete at once
  request_begun : RequestId → Ask → Option Complete → Step
  -- a receive is begun with the best message at a place, which this slot names: by an endpoint, of so many bytes at most
  receive_begun : ℕ → Slot → RequestId → Local → ℕ → Step
  -- the request at a place is gone, and with it the message that it held, which this slot names and which has these frames
  request_ended : Option ℕ → Step
  message_ended : Option ℕ → Slot → List ℕ → Step
  -- the oldest packet at a place is lent with this id; a receive of a packet is begun by an endpoint with the oldest at a place, which
  -- this slot names
  oldest_lent : ℕ → PacketId → Step
  packet_begun : ℕ → Slot → RequestId → Local → Step
  -- the request at a place is gone, and the packet that it held is lent with this id; the packet at a place of the lent ones, which has
  -- this id and these frames, is released
  packet_ended : Option ℕ → PacketId → Step
  packet_released : ℕ → PacketId → List ℕ → Step
  -- at a peer a look shows so many buffers that came back; the oldest announcement that is owed is put, in this frame; a look shows so
  -- many frames
  looked_back : ℕ → ℕ → Step
  owed_put : ℕ → List ℕ → Step
  looked_ahead : ℕ → ℕ → Step
  -- The oldest frame of a peer is taken: so many of the first bytes of this buffer. Behind so many bytes of headers it has an item of this
  -- size, which is last in the queue at a place, with this priority; or the request with this id, which asks so, is complete with it
  frame_queued : ℕ → Stored → ℕ → ℕ → ℕ → ℕ → ℕ → Step
  frame_handed : ℕ → Stored → ℕ → ℕ → ℕ → RequestId → Ask → Step
  -- it is taken in the buffer of this number, which is given back at once
  frame_returned : ℕ → ℕ → List ℕ → Step
  -- it is taken in this buffer, and so many of its bytes are those of a piece: this part of the peer begins with it, or the open one goes
  -- on with it and is this part from then on
  part_begun : OpenPart → Stored → ℕ → Step
  part_grown : OpenPart → Stored → ℕ → ℕ → Step
  -- the open part of a peer, which this slot names, is whole: it is last in the queue at a place, with this priority; or the request with
  -- this id, which asks so, is complete with it
  part_queued : Slot → ℕ → ℕ → Step
  part_handed : Slot → RequestId → Ask → Step
  -- the open part of a peer, which this slot names and which has these frames, ends; and it does so between taking a frame and what else
  -- another step does
  part_ended : Slot → List ℕ → Step
  frame_after : Slot → List ℕ → Step → Step
  -- these names are known of a peer; lookups of a name are complete with its address
  names_told : ℕ → Names → Step
  name_told : EndName → ℕ → Step
  -- the endpoint at a place has this end of a channel from now on, or none; the number of a channel is used
  channel_set : ℕ → Option Channel → Step
  channel_given : Step
  -- connects on this channel are complete so; receives at an endpoint end with a word
  connect_settled : ℕ → Complete → Step
  receives_ended : Local → Refusal → Step
  -- a reply is owed to a peer; the oldest that is owed is put, in this frame
  reply_owed : ℕ → Reply → Step
  reply_put : ℕ → List ℕ → Step

-- the packet that a slot names is lent, under the serial that comes next
abbrev pub next_lent : Book → Slot → PacketId
next_lent b s = record { peer = s.peer; buffer = s.buffer; serial = b.lends }

-- the frames of an item are taken out of the book, one after the other
abbrev pub without_frames : Book → Slot → Option ℕ → List ℕ → Book
without_frames b s lent [] = b
without_frames b s lent (f ∷ fs) = without_frames (with_taken b s lent) s lent fs

abbrev pub book_after : Step → Book → Book
book_after (best_dropped i s fs) b = without_frames b s None fs
book_after (oldest_dropped i s fs) b = without_frames b s None fs
book_after (message_ended place s fs) b = without_frames b s None fs
book_after (frame_queued peer buffer len headers size i priority) b = with_queued b (slot_at peer buffer.number) (kept_in_buffer buffer headers size)
book_after (frame_handed peer buffer len headers size id a) b = with_queued b (slot_at peer buffer.number) (kept_in_buffer buffer headers size)
book_after (part_begun o buffer len) b = with_queued b o.slot (kept_in_buffer buffer 28 o.size)
book_after (part_grown o buffer len size) b = with_joined b o.slot (kept_in_buffer buffer 28 size)
book_after (part_ended s fs) b = without_frames b s None fs
book_after (frame_after s fs c) b = book_after c (without_frames b s None fs)
book_after (oldest_lent i id) b = with_lent b (slot_of id)
book_after (packet_ended place id) b = with_lent b (slot_of id)
book_after (packet_released i id fs) b = without_frames b (slot_of id) (Some id.serial) fs
book_after other b = b

abbrev pub records_after : Step → Records → Records
records_after (endpoint_made domain at address) r = with_record r at
records_after (endpoint_gone i at) r = without_record_at r i
records_after (best_dropped i s fs) r = with_best_taken_at r i
records_after (oldest_dropped i s fs) r = with_oldest_taken_at r i
records_after (receive_begun i s id at max) r = with_best_taken_at r i
records_after (oldest_lent i id) r = with_last_lent (with_oldest_taken_at r i) id
records_after (packet_begun i s id at) r = with_oldest_taken_at r i
records_after (packet_ended place id) r = with_last_lent r id
records_after (packet_released i id fs) r = without_lent_at r i
records_after (frame_queued peer buffer len headers size i priority) r = with_waiting_at r i (waiting (slot_at peer buffer.number) priority)
records_after (part_begun o buffer len) r = with_part_open r o
records_after (part_grown o buffer len size) r = with_part_open r o
records_after (part_queued s i priority) r = with_waiting_at (without_part_of r s.peer) i (waiting s priority)
records_after (part_handed s id a) r = without_part_of r s.peer
records_after (part_ended s fs) r = without_part_of r s.peer
records_after (frame_after s fs c) r = records_after c (without_part_of r s.peer)
records_after (channel_set i c) r = with_channel_at r i c
records_after channel_given r = with_channel_given r
records_after other r = r

-- one request more, last, and one less
abbrev pub with_last : Requests → RequestId → Ask → Option Complete → Requests
with_last q id a o = record { standing = q.standing ++ record { id = id; ask = a; complete = o } ∷ []; given = (q.given + 1) % 2 ^ 64 }

abbrev pub without_at : Requests → Option ℕ → Requests
without_at q place = record q { standing = lists.without place q.standing }

abbrev pub requests_after : Step → Requests → Requests
requests_after (endpoint_made domain at address) q = with_all_complete q (waiters.Lookups (end_name domain at)) (complete.Address address)
requests_after (endpoint_gone i at) q = with_all_complete q (waiters.Receives at) (complete.Ended EndpInvalid)
requests_after (request_begun id a o) q = with_last q id a o
requests_after (receive_begun i s id at max) q = with_last q id (ask.Message at max) (Some (complete.Message s max))
requests_after (packet_begun i s id at) q = with_last q id (ask.Packet at) (Some (complete.Packet s))
requests_after (packet_ended place id) q = without_at q place
requests_after (request_ended place) q = without_at q place
requests_after (message_ended place s fs) q = without_at q place
requests_after (frame_handed peer buffer len headers size id a) q = with_complete q id (handed_by a (slot_at peer buffer.number))
requests_after (part_handed s id a) q = with_complete q id (handed_by a s)
requests_after (frame_after s fs c) q = requests_after c q
requests_after (name_told name address) q = with_all_complete q (waiters.Lookups name) (complete.Address address)
requests_after (connect_settled number how) q = with_all_complete q (waiters.Connects number) how
requests_after (receives_ended at word) q = with_all_complete q (waiters.Receives at) (complete.Ended word)
requests_after other q = q

abbrev pub table_after : Step → endpoint_table.Table → endpoint_table.Table
table_after (endpoint_made domain at address) t = endpoint_table.created t at
table_after (endpoint_gone i at) t = endpoint_table.deleted t at
table_after (owed_put peer frame) t = endpoint_table.paid_to t peer
table_after (frame_after s fs c) t = table_after c t
table_after other t = t

-- moves at one peer, by its number
abbrev pub at_peer : ℕ → List LaneMove → ℕ → List LaneMove
at_peer peer ms n = cond (peer == n) ms []

-- buffers are given back after the first move
abbrev pub giving_after : List ℕ → List LaneMove → List LaneMove
giving_after fs [] = []
giving_after fs (m ∷ ms) = m ∷ (giving fs ++ ms)

-- the moves at the peer of a number
abbrev pub step_moves : Step → ℕ → List LaneMove
step_moves (best_dropped i s fs) n = at_peer s.peer (giving fs) n
step_moves (oldest_dropped i s fs) n = at_peer s.peer (giving fs) n
step_moves (message_ended place s fs) n = at_peer s.peer (giving fs) n
step_moves (packet_released i id fs) n = at_peer id.peer (giving fs) n
step_moves (frame_put peer frame) n = at_peer peer (sender (Sent frame) ∷ []) n
step_moves (looked_back peer count) n = at_peer peer (sender (Looked count) ∷ []) n
step_moves (owed_put peer frame) n = at_peer peer (sender (Sent frame) ∷ []) n
step_moves (looked_ahead peer count) n = at_peer peer (receiver (receiving.Looked count) ∷ []) n
step_moves (frame_queued peer buffer len headers size i priority) n = at_peer peer (receiver (Took buffer.number (take len buffer.bytes)) ∷ []) n
step_moves (frame_handed peer buffer len headers size id a) n = at_peer peer (receiver (Took buffer.number (take len buffer.bytes)) ∷ []) n
step_moves (frame_returned peer number frame) n = at_peer peer (receiver (Took number frame) ∷ receiver (Gave number) ∷ []) n
step_moves (part_begun o buffer len) n = at_peer o.slot.peer (receiver (Took buffer.number (take len buffer.bytes)) ∷ []) n
step_moves (part_grown o buffer len size) n = at_peer o.slot.peer (receiver (Took buffer.number (take len buffer.bytes)) ∷ []) n
step_moves (part_ended s fs) n = at_peer s.peer (giving fs) n
step_moves (frame_after s fs c) n = giving_after fs (step_moves c n)
step_moves (reply_put peer frame) n = at_peer peer (sender (Sent frame) ∷ []) n
step_moves other n = []

abbrev pub peers_after : Step → List (Peer LaneSeen) → List (Peer LaneSeen)
peers_after (names_told peer names) ps = map (changed_peer peer (with_names names)) ps
peers_after (reply_owed peer r) ps = map (changed_peer peer (with_reply r)) ps
peers_after (reply_put peer frame) ps = map (changed_peer peer (with_reply_put frame)) ps
peers_after other ps = map (moved_peer (step_moves other)) ps

-- what a step leaves of the parts, and what steps leave, one after the other
abbrev pub done : Step → Parts → Parts
done c p = record p { book = book_after c p.book; records = records_after c p.records; requests = requests_after c p.requests; table = table_after c p.table; peers = peers_after c p.peers }

abbrev pub done_all : List Step → Parts → Parts
done_all [] p = p
done_all (c ∷ cs) p = done_all cs (done c p)

-- their moves at the peer of a number
abbrev pub all_moves : List Step → ℕ → List LaneMove
all_moves [] n = []
all_moves (c ∷ []) n = step_moves c n
all_moves (c ∷ (d ∷ cs)) n = step_moves c n ++ all_moves (d ∷ cs) n

-- these steps were made, one after the other: the parts are what they leave, and at the ends towards each peer just their moves were made
pub record Did {L : Type 0} (Moved : L → List LaneMove → L → Type 0) (steps : List Step) (old new : Holding L) : Type 0 where
  pub parts : new.parts ≡ done_all steps old.parts
  pub moved : AllMoved Moved old.ends (map (all_moves steps) (numbers_of old.parts.peers)) new.ends
