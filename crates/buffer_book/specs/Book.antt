-- The book of a domain's buffers: which of each peer's buffers are held, in which items, and whether those are in a queue or lent.
-- Source: docs/PROFILE.md, "A domain". A message or packet that a domain took and keeps is an item. It is in a queue or lent; after that its
-- buffers are given back, oldest first.
use Rattle.std.specs.Prelude.{◌≡◌, ◌≢◌, ℕ, suc, ◌+◌, ◌*◌, ◌%◌, ◌^◌, Bool, true, List, [], ◌∷◌, ◌++◌, map, take, drop, replicate, length, sum_by, find, ◌==◌, slice_get, slice_set, Option, None, Some, option_and_then, option_map, is_some, is_none, position, if◌then◌else◌, false, ◌&&◌}
use Rattle.std.specs.List.{AllByRecursion}
use Rattle.std.specs.Option.{option_or}
use Rattle.mc_base.specs.Stored.{Stored}
use Rattle.mc_base.specs.declared.request.Slot.{Slot}
use Rattle.mc_base.specs.declared.request.PacketId.{PacketId}
use Rattle.buffer_book.specs.Links.{last_of, Differ}

-- a buffer that is held, and where its content lies
pub record Kept : Type 0 where
  pub buffer : Stored
  pub start : ℕ
  pub size : ℕ

abbrev pub kept_in_buffer : Stored → ℕ → ℕ → Kept
kept_in_buffer buffer start size = record { buffer = buffer; start = start; size = size }

-- the bytes of the frame's part of the message or packet
abbrev pub content : Kept → List ℕ
content k = take k.size (drop k.start k.buffer.bytes)

-- a message or packet: the numbers of its buffers that are still held, oldest first, and the serial under which it is lent, or none where it
-- is in a queue.
-- Its name is the number of the first buffer that it had; that one may be given back before the others
pub record Item : Type 0 where
  pub lent : Option ℕ
  pub first : ℕ
  pub more : List ℕ

abbrev pub frames_of : Item → List ℕ
frames_of i = i.first ∷ i.more

abbrev pub last_frame : Item → ℕ
last_frame i = last_of i.first i.more

-- a lent item whose name another item got: it stands aside
pub record Aside : Type 0 where
  pub name : ℕ
  pub item : Item

-- a peer; for each number of its buffers what is held in it, the item that it names, and the item aside whose last buffer has this number
pub record Shelf : Type 0 where
  pub peer : ℕ
  pub places : List (Option Kept)
  pub items : List (Option Item)
  pub aside : List (Option Aside)

-- all peers, and how many items were lent before, modulo 2^64
pub record Book : Type 0 where
  pub shelves : List Shelf
  pub lends : ℕ

-- no number stands twice
abbrev pub AllDiffer : List ℕ → Type 0
AllDiffer [] = Unit {0}
AllDiffer (n ∷ ns) = AllByRecursion (λ m. (m == n) ≡ false) ns × AllDiffer ns

-- nothing is held of any peer; each has as many buffers as its size
abbrev pub empty_shelf : ℕ × ℕ → Shelf
empty_shelf s = record { peer = s.0; places = replicate s.1 None; items = replicate s.1 None; aside = replicate s.1 None }

abbrev pub opening_book : List (ℕ × ℕ) → Book
opening_book sizes = record { shelves = map empty_shelf sizes; lends = 0 }

-- ---- what is held

abbrev pub shelf_of : Book → ℕ → Option Shelf
shelf_of b peer = find (λ s. s.peer == peer) b.shelves

abbrev pub place_at : Book → Slot → Option (Option Kept)
place_at b slot = option_and_then (λ s. slice_get s.places slot.buffer) (shelf_of b slot.peer)

-- the peer has a buffer of this number, and it is not held
abbrev pub IsAway : Book → Slot → Type 0
IsAway b slot = place_at b slot ≡ Some None

-- what is held in a buffer
abbrev pub kept_at : Book → Slot → Option Kept
kept_at b slot = option_and_then (λ p. p) (place_at b slot)

-- what a shelf has at a number
abbrev pub kept_on_place : List (Option Kept) → ℕ → Option Kept
kept_on_place places number = option_and_then (λ p. p) (slice_get places number)

-- the item that a number names
abbrev pub item_on : List (Option Item) → ℕ → Option Item
item_on items name = option_and_then (λ o. o) (slice_get items name)

-- what a slot names; none where the peer has no such number
abbrev pub name_at : Book → Slot → Option (Option Item)
name_at b slot = option_and_then (λ s. slice_get s.items slot.buffer) (shelf_of b slot.peer)

-- the peer has such a name, and no item has it but such as stand aside
abbrev pub IsFree : Book → Slot → Type 0
IsFree b slot = name_at b slot ≡ Some None

abbrev pub item_at : Book → Slot → Option Item
item_at b slot = option_and_then (λ s. item_on s.items slot.buffer) (shelf_of b slot.peer)

-- both in a queue, or both lent under one serial
abbrev pub is_state : Option ℕ → Option ℕ → Bool
is_state None None = true
is_state (Some a) (Some b) = a == b
is_state None (Some b) = false
is_state (Some a) None = false

abbrev pub if_state : Option ℕ → Item → Option Item
if_state lent i = if is_state i.lent lent then Some i else None

abbrev pub item_as : List (Option Item) → ℕ → Option ℕ → Option Item
item_as items name lent = option_and_then (if_state lent) (item_on items name)

-- lent under this name and serial
abbrev pub is_aside : ℕ → ℕ → Option Aside → Bool
is_aside name serial None = false
is_aside name serial (Some a) = a.name == name && is_state a.item.lent (Some serial)

-- what stands aside at a place
abbrev pub aside_on : List (Option Aside) → ℕ → Option Aside
aside_on aside place = option_and_then (λ o. o) (slice_get aside place)

-- where the item of this name and state stands aside, which is lent
abbrev pub place_aside : List (Option Aside) → ℕ → Option ℕ → Option ℕ
place_aside aside name None = None
place_aside aside name (Some serial) = position (is_aside name serial) aside

abbrev pub item_aside : List (Option Aside) → ℕ → Option ℕ → Option Item
item_aside aside name lent = option_map (λ (a : Aside). a.item) (option_and_then (aside_on aside) (place_aside aside name lent))

-- the item of this name and state: the one that the name stands for, or else one aside
abbrev pub item_of_shelf : Shelf → ℕ → Option ℕ → Option Item
item_of_shelf s name lent = option_or (item_as s.items name lent) (item_aside s.aside name lent)

-- nothing stands aside
abbrev pub AreNone : List (Option Aside) → Type 0
AreNone aside = (l : ℕ) (a : Aside) → slice_get aside l ≢ Some (Some a)

abbrev pub NoneAside : Book → Type 0
NoneAside b = (peer : ℕ) (s : Shelf) → shelf_of b peer ≡ Some s → AreNone s.aside

-- the item in the queue that a slot names
abbrev pub queued_at : Book → Slot → Option Item
queued_at b slot = option_and_then (if_state None) (item_at b slot)

abbrev pub IsQueued : Book → Slot → Type 0
IsQueued b slot = is_some (queued_at b slot) ≡ true

abbrev pub slot_of : PacketId → Slot
slot_of id = record { peer = id.peer; buffer = id.buffer }

-- the item that is lent under an id
abbrev pub lent_as : Book → PacketId → Option Item
lent_as b id = option_and_then (λ s. item_of_shelf s id.buffer (Some id.serial)) (shelf_of b id.peer)

-- how many frames an item has; its n-th frame; whether it has no other than the first
abbrev pub count_of : Item → ℕ
count_of i = suc (length i.more)

abbrev pub frame_on : Shelf → ℕ → Item → Option Kept
frame_on s n i = option_and_then (kept_on_place s.places) (slice_get (frames_of i) n)

abbrev pub frame_at : Book → ℕ → ℕ → Item → Option Kept
frame_at b peer n i = option_and_then (λ f. kept_at b (record { peer = peer; buffer = f })) (slice_get (frames_of i) n)

abbrev pub is_single : Item → Bool
is_single i = length i.more == 0

-- ---- what changes on a shelf

abbrev pub aside_of : ℕ → Option Item → Shelf → Shelf
aside_of name None s = s
aside_of name (Some i) s = record s { items = slice_set s.items name None; aside = slice_set s.aside (last_frame i) (Some (record { name = name; item = i })) }

-- an item that has this name stands aside
abbrev pub moved_aside : ℕ → Shelf → Shelf
moved_aside name s = aside_of name (item_on s.items name) s

-- an item of one frame, in the queue
abbrev pub begun : ℕ → Kept → Shelf → Shelf
begun number k s = record s {
  places = slice_set s.places number (Some k);
  items = slice_set s.items number (Some (record { lent = None; first = number; more = [] }));
}

-- the same; a lent item of this name stands aside
abbrev pub enqueued : ℕ → Kept → Shelf → Shelf
enqueued number k s = begun number k (moved_aside number s)

abbrev pub with_frame : ℕ → Item → Item
with_frame number i = record i { more = i.more ++ number ∷ [] }

-- a frame more, behind those of the item
abbrev pub joined : ℕ → ℕ → Kept → Shelf → Shelf
joined name number k s = record s {
  places = slice_set s.places number (Some k);
  items = slice_set s.items name (option_map (with_frame number) (item_on s.items name));
}

abbrev pub lent_under : ℕ → Item → Item
lent_under serial i = record i { lent = Some serial }

abbrev pub lent_on : ℕ → ℕ → Shelf → Shelf
lent_on name serial s = record s { items = slice_set s.items name (option_map (lent_under serial) (item_on s.items name)) }

-- what is left of an item without its first frame
abbrev pub left_of : Option ℕ → List ℕ → Option Item
left_of lent [] = None
left_of lent (f ∷ fs) = Some (record { lent = lent; first = f; more = fs })

abbrev pub left_aside : ℕ → Option Item → Option Aside
left_aside name None = None
left_aside name (Some i) = Some (record { name = name; item = i })

abbrev pub taken_aside_of : ℕ → Option Aside → Shelf → Shelf
taken_aside_of place None s = s
taken_aside_of place (Some a) s = record s { places = slice_set s.places a.item.first None; aside = slice_set s.aside place (left_aside a.name (left_of a.item.lent a.item.more)) }

-- the first frame of the item aside at a place is held no more
abbrev pub taken_aside : Option ℕ → Shelf → Shelf
taken_aside None s = s
taken_aside (Some place) s = taken_aside_of place (aside_on s.aside place) s

abbrev pub taken_named_of : ℕ → Option Item → Shelf → Shelf
taken_named_of name None s = s
taken_named_of name (Some i) s = record s { places = slice_set s.places i.first None; items = slice_set s.items name (left_of i.lent i.more) }

-- the first frame of the item that a name stands for is held no more
abbrev pub taken_named : ℕ → Shelf → Shelf
taken_named name s = taken_named_of name (item_on s.items name) s

-- the first frame of the item of this name and state is held no more
abbrev pub taken : ℕ → Option ℕ → Shelf → Shelf
taken name lent s = if is_some (item_as s.items name lent) then taken_named name s else taken_aside (place_aside s.aside name lent) s

-- ---- what changes in the book

abbrev pub with_own : ℕ → (Shelf → Shelf) → Shelf → Shelf
with_own peer change s = if s.peer == peer then change s else s

abbrev pub with_shelf : Book → ℕ → (Shelf → Shelf) → Book
with_shelf b peer change = record b { shelves = map (with_own peer change) b.shelves }

abbrev pub with_queued : Book → Slot → Kept → Book
with_queued b slot k = with_shelf b slot.peer (enqueued slot.buffer k)

abbrev pub with_joined : Book → Slot → Kept → Book
with_joined b slot k = with_shelf b slot.peer (joined slot.buffer k.buffer.number k)

abbrev pub with_lent : Book → Slot → Book
with_lent b slot = record (with_shelf b slot.peer (lent_on slot.buffer b.lends)) { lends = (b.lends + 1) % 2 ^ 64 }

abbrev pub with_taken : Book → Slot → Option ℕ → Book
with_taken b slot lent = with_shelf b slot.peer (taken slot.buffer lent)

-- ---- how many frames are held

abbrev pub queued_frames : Option Item → ℕ
queued_frames None = 0
queued_frames (Some i) = if is_none i.lent then count_of i else 0

abbrev pub lent_frames : Option Item → ℕ
lent_frames None = 0
lent_frames (Some i) = if is_some i.lent then count_of i else 0

abbrev pub aside_frames : Option Aside → ℕ
aside_frames None = 0
aside_frames (Some a) = count_of a.item

abbrev pub size_in : Option Shelf → ℕ
size_in None = 0
size_in (Some s) = length s.places

abbrev pub queued_in : Option Shelf → ℕ
queued_in None = 0
queued_in (Some s) = sum_by queued_frames s.items

abbrev pub lent_in : Option Shelf → ℕ
lent_in None = 0
lent_in (Some s) = sum_by lent_frames s.items + sum_by aside_frames s.aside

-- how many buffers a peer has, and how many of them are in queues or lent; none of a peer that the book does not know
abbrev pub size_of : Book → ℕ → ℕ
size_of b peer = size_in (shelf_of b peer)

abbrev pub queued_from : Book → ℕ → ℕ
queued_from b peer = queued_in (shelf_of b peer)

abbrev pub lent_from : Book → ℕ → ℕ
lent_from b peer = lent_in (shelf_of b peer)

-- ---- what holds of every book

-- the frames of an item are held, each once, and in this item
pub record AreFrames (places : List (Option Kept)) (owner : ℕ → ℕ) (key : ℕ) (i : Item) : Type 0 where
  pub held : AllByRecursion (λ f. is_some (kept_on_place places f) ≡ true) (frames_of i)
  pub own : AllByRecursion (λ f. owner f ≡ key) (frames_of i)
  pub differ : Differ (frames_of i)

-- each frame of an item is held, and in no other item. `owner` tells the item of each held buffer: 2 n for the one of the name n, and 2 l + 1
-- for the one aside whose last buffer is l
pub record HoldsOnce (s : Shelf) : Type 0 where
  pub names : length s.items ≡ length s.places
  pub asides : length s.aside ≡ length s.places
  pub numbered : (n : ℕ) (k : Kept) → slice_get s.places n ≡ Some (Some k) → k.buffer.number ≡ n
  pub owner : ℕ → ℕ
  pub items : (n : ℕ) (i : Item) → slice_get s.items n ≡ Some (Some i) → AreFrames s.places owner (2 * n) i
  pub aside : (l : ℕ) (a : Aside) → slice_get s.aside l ≡ Some (Some a) → AreFrames s.places owner (2 * l + 1) a.item
  pub last : (l : ℕ) (a : Aside) → slice_get s.aside l ≡ Some (Some a) → last_frame a.item ≡ l
  pub lent : (l : ℕ) (a : Aside) → slice_get s.aside l ≡ Some (Some a) → is_some a.item.lent ≡ true

abbrev pub EachHoldsOnce : Book → Type 0
EachHoldsOnce b = AllByRecursion HoldsOnce b.shelves
