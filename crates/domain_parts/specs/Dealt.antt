-- What a frame that is taken does with the open part of its peer, and what is to be done with it.
-- Source: docs/PROFILE.md, "What a domain does with a taken frame".
use Rattle.std.specs.Prelude.{◌≡◌, ℕ, ◌+◌, ◌≤◌, Bool, true, false, List, [], ◌∷◌, ◌++◌, length, take, drop, Option, Some, None, option_map}
use Rattle.mc_base.specs.Frame.{source_of}
use Rattle.mc_base.specs.Letter.{Piece as PlainPiece, carried}
use Rattle.mc_base.specs.Limits.{item_size}
use Rattle.mc_base.specs.declared.fate.Fate.{Fate}
use Rattle.mc_base.specs.declared.fate.Fate.TheVariants.{Queued, Handed, Part}
use Rattle.mc_base.specs.declared.request.Slot.{Slot}
use Rattle.board_model.specs.Change.{frame_taken}
use Rattle.board_model.specs.Deeds.{taken_change}
use Rattle.board_model.specs.Parts.{alone, came_from, coming_from, named_so, part_of}
use Rattle.board_model.specs.Returns.{given_at_once, given_by_frame}
use Rattle.board_model.specs.State as state
use Rattle.board_model.specs.State.{DomainState, held_of}
use Rattle.board_model.specs.TakenFrames.{row, row_from}
use Rattle.buffer_book.specs.Book.{Book}
use Rattle.request_set.specs.Requests.{Requests}
use Rattle.domain_parts.specs.declared.dealing.Dealt.{Dealt}
use Rattle.domain_parts.specs.declared.dealing.Dealt.TheVariants as dealt
use Rattle.domain_parts.specs.declared.dealing.Verdict.{Verdict}
use Rattle.domain_parts.specs.declared.dealing.Verdict.TheVariants as verdict
use Rattle.domain_parts.specs.declared.parts.OpenPart.{OpenPart}
use Rattle.domain_parts.specs.declared.parts.Piece.{Piece}
use Rattle.domain_parts.specs.declared.dealing.Way.{Way}
use Rattle.domain_parts.specs.declared.replies.Reply.{Reply}
use Rattle.domain_parts.specs.Growing.{begun_by, is_whole}
use Rattle.domain_parts.specs.InBook.{channel_of, content_in, part_read, priority_of, whole_at}
use Rattle.domain_parts.specs.Pieces.{carrier_channel, carrier_in, carrier_of, carrier_priority, part_with}
use Rattle.domain_parts.specs.Records.{Records, part_open}
use Rattle.domain_parts.specs.Verdicts.{Desk, IsHanded, IsQueued, IsVerdict, Judges, Shows, beside, fate_of, item_with}

-- a state in which the open part of a peer is the one of the records, and as many bytes came of it as the book has
pub record ShowsPart (s : DomainState) (peer : ℕ) (b : Book) (r : Records) : Type 0 where
  pub part : part_of s peer ≡ option_map (λ o. (part_read b o).part) (part_open r peer)
  pub size : (o : OpenPart) → part_open r peer ≡ Some o → length (content_in (whole_at b o.slot)) ≡ o.size
  pub most : (o : OpenPart) → part_open r peer ≡ Some o → o.total ≤ item_size

-- the bytes of a piece, and all that came of its item with it
abbrev pub piece_bytes : List ℕ → ℕ → List ℕ
piece_bytes frame size = take size (drop 28 frame)

abbrev pub grown_bytes : Book → OpenPart → List ℕ → ℕ → List ℕ
grown_bytes b o frame size = content_in (whole_at b o.slot) ++ piece_bytes frame size

module _ (s : DomainState) (name : Option ℕ) (peer : ℕ) (b : Book) (frame : List ℕ) (d d' : Desk) where
  -- No part is open after it, and the frames of the one that was go back. An item of the frame lies behind so many bytes of headers
  pub record IsAlone (v : Verdict) (headers : ℕ) : Type 0 where
    pub verdict : IsVerdict s name peer frame headers v d d'
    pub shut : taken_change peer (came_from s peer name frame) ≡ frame_taken peer None []
    pub gives : given_by_frame s peer name frame (fate_of v) ≡ held_of s peer ++ given_at_once (fate_of v) (named_so name ∷ [])

  -- a part begins with this piece, whatever slot it gets
  pub record IsBegun (p : Piece) : Type 0 where
    pub source : source_of frame ≡ p.source
    pub priority : priority_of frame ≡ carrier_priority (carrier_in p.carrier)
    pub channel : channel_of frame ≡ carrier_channel (carrier_in p.carrier)
    pub inside : 28 + p.size ≤ length frame
    pub within : p.size ≤ p.total
    pub most : p.total ≤ item_size
    pub row_is : row_from s peer name frame ≡ row true Part []
    pub opens : (slot : Slot) → taken_change peer (came_from s peer name frame) ≡ frame_taken peer (Some (part_with (begun_by slot p) (piece_bytes frame p.size))) (named_so name ∷ [])
    pub gives : given_by_frame s peer name frame Part ≡ held_of s peer ++ []
    pub same : d' ≡ d

  -- the open part was this one, and goes on with so many bytes of the frame
  pub record GoesOn (o : OpenPart) (size : ℕ) : Type 0 where
    pub was : part_open d.records peer ≡ Some o
    pub inside : 28 + size ≤ length frame
    pub within : o.size + size ≤ o.total

  abbrev pub grown_to : OpenPart → ℕ → OpenPart
  grown_to o size = record o { size = o.size + size }

  -- it is open still
  pub record IsGrown (g : OpenPart) (size : ℕ) : Type 0 where
    pub before : OpenPart
    pub is : g ≡ grown_to before size
    pub on : GoesOn before size
    pub row_is : row_from s peer name frame ≡ row true Part []
    pub opens : taken_change peer (came_from s peer name frame) ≡ frame_taken peer (Some (part_with g (grown_bytes b before frame size))) (held_of s peer ++ named_so name ∷ [])
    pub gives : given_by_frame s peer name frame Part ≡ []
    pub same : d' ≡ d

  -- it is whole
  abbrev pub item_whole : OpenPart → ℕ → state.Item
  item_whole o size = item_with (held_of s peer ++ named_so name ∷ []) peer o.source (carrier_priority (carrier_of o)) (carrier_channel (carrier_of o)) (grown_bytes b o frame size)

  -- and what becomes of it hangs on its item
  pub record IsWhole (g : OpenPart) (size : ℕ) (fate : Fate) (Becomes : state.Item → Type 0) : Type 0 where
    pub before : OpenPart
    pub is : g ≡ grown_to before size
    pub on : GoesOn before size
    pub becomes : Becomes (item_whole before size)
    pub shut : taken_change peer (came_from s peer name frame) ≡ frame_taken peer None []
    pub gives : given_by_frame s peer name frame fate ≡ []
    pub same : d' ≡ d

abbrev pub IsDealt : DomainState → Option ℕ → ℕ → Book → List ℕ → Desk → Desk → Dealt → Type 0
IsDealt s name peer b frame d d' (dealt.Alone v headers) = IsAlone s name peer b frame d d' v headers
IsDealt s name peer b frame d d' (dealt.Begins p) = IsBegun s name peer b frame d d' p
IsDealt s name peer b frame d d' (dealt.Grows g size) = IsGrown s name peer b frame d d' g size
IsDealt s name peer b frame d d' (dealt.WholeQueued g size place priority) = IsWhole s name peer b frame d d' g size Queued (λ item. (item.priority ≡ priority) × IsQueued s (row_from s peer name frame) item place)
IsDealt s name peer b frame d d' (dealt.WholeHanded g size id a) = IsWhole s name peer b frame d d' g size Handed (λ item. IsHanded s d.requests (row_from s peer name frame) item id a)

-- the word for it
abbrev pub word_of : Dealt → Fate
word_of (dealt.Alone v headers) = fate_of v
word_of (dealt.Begins p) = Part
word_of (dealt.Grows g size) = Part
word_of (dealt.WholeQueued g size place priority) = Queued
word_of (dealt.WholeHanded g size id a) = Handed

-- ---- a part that has come so far, with this many bytes of the last frame

-- what becomes of its item, once it is whole
abbrev pub whole_as : OpenPart → ℕ → Verdict → Dealt
whole_as g size (verdict.Queued place priority n) = dealt.WholeQueued g size place priority
whole_as g size (verdict.Handed id a n) = dealt.WholeHanded g size id a
whole_as g size (verdict.Returned fate) = dealt.Alone (verdict.Returned fate) 28

abbrev pub way_of : OpenPart → Way
way_of g = record { peer = g.slot.peer; source = g.source; destination = g.destination }

abbrev pub GrowsBy : Bool → Records → Requests → OpenPart → ℕ → Dealt → Type 0
GrowsBy false r q g size d = d ≡ dealt.Grows g size
GrowsBy true r q g size d =
    (v : Verdict) × (d ≡ whole_as g size v) × ((content : List ℕ) (replies : List Reply) → length content ≡ g.size
    → Judges (way_of g) (carried (carrier_of g) content) v (beside r q replies) (beside r q replies))

abbrev pub GrowsTo : Records → Requests → OpenPart → ℕ → Dealt → Type 0
GrowsTo r q g size d = GrowsBy (is_whole g) r q g size d

-- a piece of a frame that goes on with no part
abbrev pub DealsAlone : ℕ → List ℕ → Piece → PlainPiece → Dealt → Desk → Type 0
DealsAlone peer frame p q v d =
    (b : Book) (s : DomainState) (name : Option ℕ) → Shows s peer b d → coming_from s peer frame ≡ alone p.source p.destination q → IsDealt s name peer b frame d d v

-- in each state with what the parts have, whatever names the frames have
abbrev pub DealsWith : ℕ → List ℕ → Dealt → Desk → Desk → Type 0
DealsWith peer frame v d d' = (b : Book) (s : DomainState) (name : Option ℕ) → Shows s peer b d → ShowsPart s peer b d.records → IsDealt s name peer b frame d d' v
