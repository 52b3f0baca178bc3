-- The state of a domain, as its parts are seen.
-- Source: docs/PROFILE.md, "A domain". What the state tells of a lane is what the ends towards the peer tell of it.
use Rattle.std.specs.Prelude.{ℕ, Bool, not, ◌==◌, List, map, filter, find, Option, option_map}
use Rattle.std.specs.List.{flat_map}
use Rattle.board_model.specs.State as state
use Rattle.board_model.specs.Change.{held_as}
use Rattle.board_model.specs.State.{DomainState, Announcement, HeldFrame, Part}
use Rattle.buffer_book.specs.Book.{Book}
use Rattle.request_set.specs.Requests.{Requests}
use Rattle.endpoint_table.specs.declared.announced.Announced.{Announced}
use Rattle.endpoint_table.specs.declared.record.Record.{Record}
use Rattle.endpoint_table.specs.Table as endpoint_table
use Rattle.endpoint_table.specs.Table.{owing_to}
use Rattle.domain_parts.specs.LaneSeen.{LaneSeen}
use Rattle.domain_parts.specs.declared.peer.Peer.{Peer}
use Rattle.domain_parts.specs.declared.replies.Reply.{Reply}
use Rattle.domain_parts.specs.Records.{Records}
use Rattle.domain_parts.specs.InBook.{endpoints_in, open_parts, packets_in, requests_in}
use Rattle.domain_parts.specs.Table.{PartRead}
use Rattle.domain_parts.specs.Owed.{owed_by}

-- what is owed to a linked domain, as the table of endpoints has it
abbrev pub announcement_in : Announced → Announcement
announcement_in a = record { local = a.local; address = a.address; create = a.create }

abbrev pub reply_in : Reply → state.Reply
reply_in r = record { source = r.source; destination = r.destination; channel = r.channel; reason = r.reason }

-- the open part of a peer, among all, and the frames of all
abbrev pub is_read_of : ℕ → PartRead → Bool
is_read_of peer o = o.peer == peer

abbrev pub part_from : List PartRead → ℕ → Option Part
part_from os peer = option_map (λ o. o.part) (find (is_read_of peer) os)

abbrev pub held_in : List PartRead → List HeldFrame
held_in os = flat_map (λ o. map (held_as o.peer) o.names) os

-- a peer
abbrev pub peer_in : {L : Type 0} → (L → LaneSeen) → List PartRead → endpoint_table.Table → Peer L → state.Peer
peer_in v os t p = record { number = p.number; size = (v p.ends).size_from; free = (v p.ends).free; shown = (v p.ends).shown; announcements = map announcement_in (owed_by (owing_to t p.number)); replies = map reply_in p.replies; known = p.known; part = part_from os p.number }

abbrev pub peers_in : {L : Type 0} → (L → LaneSeen) → List PartRead → endpoint_table.Table → List (Peer L) → List state.Peer
peers_in v os t ps = map (peer_in v os t) ps

-- the addresses of the records whose endpoints are gone
abbrev pub ended_in : List Record → List ℕ
ended_in records = map (λ r. r.address) (filter (λ r. not r.live) records)

-- what waits, was handed or is lent is read in the book of buffers
abbrev pub state_in : {L : Type 0} → (L → LaneSeen) → Book → Records → Requests → endpoint_table.Table → List (Peer L) → DomainState
state_in v b r q t ps = record { number = t.domain; nodes = t.nodes; endpoints = endpoints_in b r.endpoints; ended = ended_in t.records; peers = peers_in v (open_parts b r.parts) t ps; requests = requests_in b q.standing; lent = packets_in b r.lent; held = held_in (open_parts b r.parts); endpoints_given = t.given; channels_given = r.channels; requests_given = q.given; packets_lent = b.lends }
