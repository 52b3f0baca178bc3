-- Messages and packets that come in several frames: how a frame goes on with the open part of its peer, and what it says then.
-- Source: docs/PROFILE.md, "What a domain does with a taken frame". A frame that does not go on with the open part ends it: the part's
-- buffers are given back, the oldest first, and then the frame is dealt with.
use Rattle.std.specs.Prelude.{ℕ, Bool, true, false, ◌&&◌, ◌==◌, List, [], ◌∷◌, ◌++◌, length, Option, Some, None, unwrap_or, if◌then◌else◌}
use Rattle.mc_base.specs.Letter.{Carrier, of_message, of_packet, carried, Piece}
use Rattle.mc_base.specs.Reading.{Reading, says, brings, reading}
use Rattle.board_model.specs.State.{Part, Peer, DomainState, peer_at, held_of}

-- ---- one frame

-- two carry bytes of the same message or packet, as far as kind, priority and channel tell
abbrev pub same_carrier : Carrier → Carrier → Bool
same_carrier (of_message priority) (of_message other) = priority == other
same_carrier (of_packet channel) (of_packet other) = channel == other
same_carrier one other = false

-- the part goes on with the open one
abbrev pub goes_on : Part → ℕ → ℕ → Piece → Bool
goes_on p source destination q = p.source == source && (p.destination == destination && (same_carrier p.carrier q.carrier && (p.total == q.total && length p.content == q.offset)))

-- what a frame says together with the open part, the part that is open after it, and whether it went on with the one before it
pub record Coming : Type 0 where
  pub reading : Reading
  pub part : Option Part
  pub joins : Bool

abbrev pub coming_so : Reading → Option Part → Bool → Coming
coming_so reading part joins = record { reading = reading; part = part; joins = joins }

abbrev pub begun : ℕ → ℕ → Piece → Part
begun source destination q = record { source = source; destination = destination; carrier = q.carrier; total = q.total; content = [] }

abbrev pub with_piece : Part → Piece → Part
with_piece p q = record p { content = p.content ++ q.content }

-- with the piece the part is whole, and says its letter; or it is open
abbrev pub grown : Bool → Part → Piece → Coming
grown joins p q =
    if length (p.content ++ q.content) == p.total then coming_so (says p.source p.destination (carried p.carrier (p.content ++ q.content))) None joins
    else coming_so (brings p.source p.destination q) (Some (with_piece p q)) joins

-- a piece begins a part where no bytes come before its own
unfoldable pub begins : Piece → Bool
begins q = q.offset == 0

-- a piece that goes on with nothing begins a part, or is stray
abbrev pub alone : ℕ → ℕ → Piece → Coming
alone source destination q = if begins q then grown false (begun source destination q) q else coming_so (brings source destination q) None false

abbrev pub piece_coming : Option Part → ℕ → ℕ → Piece → Coming
piece_coming None source destination q = alone source destination q
piece_coming (Some p) source destination q = if goes_on p source destination q then grown true p q else alone source destination q

abbrev pub coming : Option Part → Reading → Coming
coming before (brings source destination q) = piece_coming before source destination q
coming before other = coming_so other None false

-- ---- frames one after the other

-- what each says, and the part that is open after them
abbrev pub readings : Option Part → List (List ℕ) → List Reading
readings before [] = []
readings before (f ∷ fs) = (coming before (reading f)).reading ∷ readings (coming before (reading f)).part fs

abbrev pub part_after : Option Part → List (List ℕ) → Option Part
part_after before [] = before
part_after before (f ∷ fs) = part_after (coming before (reading f)).part fs

-- ---- a frame from a peer of a domain

abbrev pub part_in : Option Peer → Option Part
part_in None = None
part_in (Some p) = p.part

-- the open part of a peer
abbrev pub part_of : DomainState → ℕ → Option Part
part_of s peer = part_in (peer_at s peer)

abbrev pub coming_from : DomainState → ℕ → List ℕ → Coming
coming_from s peer frame = coming (part_of s peer) (reading frame)

-- what a frame says
abbrev pub said_from : DomainState → ℕ → List ℕ → Reading
said_from s peer frame = (coming_from s peer frame).reading

-- the names of the frames before it that are of the same item, and of those whose item ends unfinished
abbrev pub names_before : Bool → List ℕ → List ℕ
names_before joins held = if joins then held else []

abbrev pub names_ended : Bool → List ℕ → List ℕ
names_ended joins held = if joins then [] else held

-- a frame is named 0 where no name is told
abbrev pub named_so : Option ℕ → ℕ
named_so name = unwrap_or name 0

-- the frames that brought what the frame says, it among them, and the part that is open after it
pub record Came : Type 0 where
  pub names : List ℕ
  pub part : Option Part

abbrev pub came_by : Coming → List ℕ → Option ℕ → Came
came_by c held name = record { names = names_before c.joins held ++ named_so name ∷ []; part = c.part }

abbrev pub came_from : DomainState → ℕ → Option ℕ → List ℕ → Came
came_from s peer name frame = came_by (coming_from s peer frame) (held_of s peer) name

-- the names of the frames that are held after it in an open part
abbrev pub held_if : Option Part → List ℕ → List ℕ
held_if None names = []
held_if (Some p) names = names

abbrev pub held_by : Came → List ℕ
held_by c = held_if c.part c.names
