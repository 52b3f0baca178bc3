-- Where the buffers are that a domain took from its lanes and has not given back: each in one item, and each item in one place.
-- Source: docs/PROFILE.md, "Lanes". Such an item waits at an endpoint, a complete request holds it, or it is lent. Each place is told by
-- counts.
use Rattle.std.specs.Prelude.{◌≡◌, ℕ, ◌+◌, ◌≤◌, Bool, cond, not, ◌&&◌, List, [], ◌∷◌, ◌++◌, length, map, count_by, Option, None, Some, option_and_then, is_some, nat_lt, true, ◌==◌}
use Rattle.std.specs.List.{AllByRecursion}
use Rattle.mc_base.specs.Limits.{domain_limit, item_size}
use Rattle.mc_base.specs.declared.request.PacketId.{PacketId}
use Rattle.mc_base.specs.declared.request.Slot.{Slot}
use Rattle.buffer_book.specs.Book.{Book, Item, NoneAside, if_state, item_at, kept_at, name_at, place_at, queued_at, slot_of}
use Rattle.message_queue.specs.Queue.{Waiting}
use Rattle.request_set.specs.Requests.{Requests}
use Rattle.domain_parts.specs.Records.{Records, all_waiting, lent_slots, part_slots}
pub use Rattle.domain_parts.specs.InBook.{slot_at}
use Rattle.domain_parts.specs.InBook.{Whole, channel_in, content_in, frames_at, priority_in, source_in, whole_at}
use Rattle.domain_parts.specs.Pieces.{carrier_channel, carrier_of, carrier_priority}
use Rattle.domain_parts.specs.declared.parts.OpenPart.{OpenPart}
use Rattle.domain_parts.specs.InRequests.{handed_slots}
use Rattle.lane_end.specs.Numbers.{often, AreApart}
use Rattle.domain_parts.specs.Out.{Out}

abbrev pub one_if : Bool → ℕ
one_if b = cond b 1 0

-- whether two slots are one
abbrev pub is_same : Slot → Slot → Bool
is_same s t = s.peer == t.peer && s.buffer == t.buffer

-- how often a slot waits, and how often it stands in a list
abbrev pub times_waiting : Slot → List Waiting → ℕ
times_waiting s ws = count_by (λ w. is_same w.slot s) ws

abbrev pub times_in : Slot → List Slot → ℕ
times_in s ss = count_by (λ t. is_same t s) ss

abbrev pub is_of : ℕ → Slot → Bool
is_of peer s = s.peer == peer

-- what is kept has a message's size at most
abbrev pub IsShort : Option Whole → Type 0
IsShort o = length (content_in o) ≤ item_size

-- an item has the name of its first frame
abbrev pub IsNamed : Slot → Option Item → Type 0
IsNamed s None = Unit {0}
IsNamed s (Some i) = i.first ≡ s.buffer

-- a buffer is a frame of the item that a slot names
abbrev pub has_frame : Book → Slot → Slot → Bool
has_frame b f s = s.peer == f.peer && nat_lt 0 (often f.buffer (frames_at b s))

-- A lane from a peer, by the peer's number and the buffers that are out; the slots that wait or were handed; those that are lent; the
-- book; and the numbers of the lane's buffers that are out and not in the book
pub record EachInPlace (number : ℕ) (o : Out) (ss ls : List Slot) (b : Book) (ns : List ℕ) : Type 0 where
  -- a slot stands once where it names an item in a queue, and else not
  pub stands_once : (s : Slot) → times_in s ss ≡ one_if (is_some (queued_at b s))
  -- it is lent once where it names an item, but none in a queue
  pub lent_once : (s : Slot) → times_in s ls + one_if (is_some (queued_at b s)) ≡ one_if (is_some (item_at b s))
  -- each buffer that is held is a frame of one of these items, and no other buffer is
  pub framed : (f : Slot) → count_by (has_frame b f) (ss ++ ls) ≡ one_if (is_some (kept_at b f))
  -- no frame comes twice in an item
  pub differ : (s : Slot) (f : ℕ) → often f (frames_at b s) ≤ 1
  pub named : (s : Slot) → IsNamed s (item_at b s)
  pub none_aside : NoneAside b
  -- there is a name for each buffer
  pub names : (s : Slot) → is_some (name_at b s) ≡ is_some (place_at b s)
  pub short : (s : Slot) → IsShort (whole_at b s)
  -- the book knows the buffers of the lane
  pub known : (n : ℕ) → is_some (place_at b (slot_at number n)) ≡ nat_lt n o.size
  -- each number that is out is in the book or once beside it, and no other number is
  pub once : (n : ℕ) → often n ns + one_if (is_some (kept_at b (slot_at number n))) ≡ often n o.numbers
  -- they differ, and are numbers of the lane's buffers
  pub apart : AreApart o.size o.numbers

-- the slots of open parts, and those that wait or were handed
abbrev pub slots_of : Records → Requests → List Slot
slots_of r q = part_slots r.parts ++ (map (λ w. w.slot) (all_waiting r.endpoints) ++ handed_slots q.standing)

-- an item waits with another priority than its first frame has
abbrev pub is_misplaced : Book → Waiting → Bool
is_misplaced b w = not (w.priority == priority_in (whole_at b w.slot))

-- the packet that is lent under an id
abbrev pub lent_item : Book → PacketId → Option Item
lent_item b id = option_and_then (if_state (Some id.serial)) (item_at b (slot_of id))

abbrev pub IsLentAs : Book → PacketId → Type 0
IsLentAs b id = is_some (lent_item b id) ≡ true

-- an open part is what its frames say: as many bytes came as they hold, and the first tells its source, priority and channel
pub record IsOpenBy (w : Option Whole) (o : OpenPart) : Type 0 where
  pub size : length (content_in w) ≡ o.size
  pub source : source_in w ≡ o.source
  pub priority : priority_in w ≡ carrier_priority (carrier_of o)
  pub channel : channel_in w ≡ carrier_channel (carrier_of o)
  pub within : o.size ≤ o.total
  pub most : o.total ≤ item_size

abbrev pub IsOpenAs : Book → OpenPart → Type 0
IsOpenAs b o = IsOpenBy (whole_at b o.slot) o

-- no peer has two
pub record AreOpen (b : Book) (os : List OpenPart) : Type 0 where
  pub each : AllByRecursion (IsOpenAs b) os
  pub apart : AreApart domain_limit (map (λ o. o.slot.peer) os)

-- each buffer of the lane from a peer that is out is in one place, but for these, and what waits has the priority of its first frame
pub record AreInPlacesBeside (ns : List ℕ) (number : ℕ) (r : Records) (q : Requests) (b : Book) (o : Out) : Type 0 where
  pub each : EachInPlace number o (slots_of r q) (lent_slots r) b ns
  pub priorities : count_by (is_misplaced b) (all_waiting r.endpoints) ≡ 0
  pub lent : AllByRecursion (IsLentAs b) r.lent
  pub parts : AreOpen b r.parts

abbrev pub AreInPlaces : ℕ → Records → Requests → Book → Out → Type 0
AreInPlaces number r q b o = AreInPlacesBeside [] number r q b o

-- the same while one buffer is out of all places, between the lane and its place
abbrev pub AreInPlacesBut : ℕ → ℕ → Records → Requests → Book → Out → Type 0
AreInPlacesBut n number r q b o = AreInPlacesBeside (n ∷ []) number r q b o

-- the lanes from all other peers stay in order
abbrev pub KeepOthers : ℕ → Records → Requests → Book → Records → Requests → Book → Type 0
KeepOthers number r q b r' q' b' = (p : ℕ) (o : Out) → (p ≡ number → ⊥) → AreInPlaces p r q b o → AreInPlaces p r' q' b' o
