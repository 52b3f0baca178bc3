-- The inside of a domain as one value: its parts as plain data, with the ends towards its peers beside them.
-- Source: docs/PROFILE.md, "A domain" and "Lanes". Ends move by the moves of their lanes. What is seen of them changes by a function
-- of each move.
use Rattle.std.specs.Prelude.{refl, ℕ, List, [], map, slice_index_or}
use Rattle.buffer_book.specs.Book.{Book}
use Rattle.request_set.specs.Requests.{Requests}
use Rattle.endpoint_table.specs.Table as endpoint_table
use Rattle.board_model.specs.State.{DomainState}
use Rattle.board_model.specs.Unnamed.{unnamed}
use Rattle.domain_parts.specs.declared.peer.Peer.{Peer}
use Rattle.domain_parts.specs.AllMoved.{ends_of}
use Rattle.domain_parts.specs.DomainView.{DomainView}
use Rattle.domain_parts.specs.InBook.{contents_of, open_parts}
use Rattle.domain_parts.specs.LaneSeen.{LaneSeen}
use Rattle.domain_parts.specs.Peers.{state_in}
use Rattle.domain_parts.specs.Records.{Records}
use Rattle.domain_parts.specs.Sound.{AreSound}
use Rattle.domain_parts.specs.Table.{PartRead}

-- what is seen of a peer and the ends towards it
abbrev pub peer_seen : {L : Type 0} → (L → LaneSeen) → Peer L → Peer LaneSeen
peer_seen v p = record { number = p.number; ends = v p.ends; known = p.known; replies = p.replies }

abbrev pub peers_seen : {L : Type 0} → (L → LaneSeen) → List (Peer L) → List (Peer LaneSeen)
peers_seen v ps = map (peer_seen v) ps

-- what is seen is seen as it is
abbrev pub plain : LaneSeen → LaneSeen
plain l = l

-- the book of buffers, the endpoints and their queues, the requests, the table of the endpoints' names, and what is seen of each peer
pub record Parts : Type 0 where
  pub book : Book
  pub records : Records
  pub requests : Requests
  pub table : endpoint_table.Table
  pub peers : List (Peer LaneSeen)

-- the state that they are, in which each item is named by its buffer's number, and what they keep
abbrev pub state_of : Parts → DomainState
state_of p = state_in plain p.book p.records p.requests p.table p.peers

abbrev pub Sound : Parts → Type 0
Sound p = AreSound plain p.book p.records p.requests p.table p.peers

-- their open parts
abbrev pub parts_read : Parts → List PartRead
parts_read p = open_parts p.book p.records.parts

-- the peer at a place, and none where there is no such place
abbrev pub nobody : Peer LaneSeen
nobody = record { number = 0; ends = record { size_to = 0; size_from = 0; free = 0; shown = 0; out = [] }; known = []; replies = [] }

abbrev pub peer_at : Parts → ℕ → Peer LaneSeen
peer_at p i = slice_index_or p.peers i nobody

-- the parts with the ends towards each peer, in the order of the peers
pub record Holding (L : Type 0) : Type 0 where
  pub parts : Parts
  pub ends : List L

abbrev pub parts_in : {L : Type 0} → (L → LaneSeen) → Book → Records → Requests → endpoint_table.Table → List (Peer L) → Parts
parts_in v b r q t ps = record { book = b; records = r; requests = q; table = t; peers = peers_seen v ps }

abbrev pub holding_in : {L : Type 0} → (L → LaneSeen) → Book → Records → Requests → endpoint_table.Table → List (Peer L) → Holding L
holding_in v b r q t ps = record { parts = parts_in v b r q t ps; ends = ends_of ps }

-- what contracts of a domain see of it
abbrev pub shown : {L : Type 0} → Holding L → DomainView L
shown h = record { state = unnamed (state_of h.parts); numbered = state_of h.parts; nameless = refl; ends = h.ends; ids = map (λ r. r.id) h.parts.requests.standing; packets = h.parts.records.lent; pieces = contents_of h.parts.book h.parts.records.lent }
